-- The invariant of the loop of `report::Page::hex`: two digits for each byte so far.
-- Assumes nothing.
use Rattle.std.proofs.Common.{◌≡◌, ◌+◌, ◌*◌, ◌++◌, length, take}
use Rattle.std.specs.List.{flat_map}
use Rattle.report.specs.Lines.{hex2}
use Rattle.report.proofs.Page.hex.Given as goal

abbrev pub invariant-loop-b : goal.invariant-loop-b
invariant-loop-b l = record {
  written : l.self ≡ l.initial.self ++ flat_map hex2 (take l.b-index l.b-items);
  long : length l.self ≡ length l.initial.self + 2 * l.b-index;
}
