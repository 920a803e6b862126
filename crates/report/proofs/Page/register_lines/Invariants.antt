-- The invariant of the loop of `report::Page::register_lines`: the lines of the registers below i are written.
-- Assumes nothing.
use Rattle.std.proofs.Common.{◌≡◌, ◌+◌, ◌*◌, ◌≤◌, ◌++◌, length}
use Rattle.report.specs.Lines.{register_lines}
use Rattle.report.proofs.Page.register_lines.Given as goal

abbrev pub invariant-loop-i : goal.invariant-loop-i
invariant-loop-i l = record {
  written : l.self ≡ l.initial.self ++ register_lines l.i l.regs.r;
  short : length l.self ≤ length l.initial.self + 13 * l.i;
}
