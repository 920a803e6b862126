-- The starred examples of document 01: each is seen as the paper says.
-- Assumes nothing.
use mathlib.Core.Path.{◌≡◌, refl}
use mathlib.Core.List.{map}
use Rattle.word.specs.Word.{sub_of, extend_of, mulxss_of, mulxsu_of, div_of, ror_of}
use Rattle.isa.specs.Words.{op_list, opx_list, kind_of}
use Rattle.state.specs.State.{write}
use Rattle.machine.specs.Step.{attempt}
use Rattle.machine.specs.Calls.{run_refusal, run_of}
use Rattle.promise.specs.Examples.{examples, actual}

pub all_as_written : map actual examples ≡ examples
unfolding sub_of extend_of mulxss_of mulxsu_of div_of ror_of op_list opx_list kind_of write attempt run_refusal run_of
all_as_written = refl
