-- `maps::none` meets its contract: the bits of a range, one after another.
-- Assumes nothing.
use mathlib.Core.Path.{refl, ◌∙◌}
use Prim.Native.Nat.{◌-◌}
use lib.Dec.{eqb}
use Rattle.std.proofs.Common.{rules, tests}
use Rattle.std.proofs.lemmas.Iterator.{YieldsList-from_range}
use Rattle.std.proofs.lemmas.Iterator.Search.{all_from_yields_List}
use Rattle.trace.specs.Maps.{bit}
use Rattle.maps.proofs.Ranges.{all_clear}
use Rattle.maps.proofs.none.Goals as goal

pub returns : goal.returns
returns c =
    let n = c.args.range.end - c.args.range.start in
    all_from_yields_List (λ k. eqb (bit c.args.map.now k) 0) _ _ c.all.result c.all.ensures.ran (YieldsList-from_range c.args.range.start c.args.range.end n refl refl) (λ x b q k. search (rules, tests)) ∙ all_clear c.args.map.now c.args.range.start n
