use Rattle.std.proofs.Common.{Result, Ok, Err}
use Rattle.std.specs.Result.{IfOk}
use Rattle.tda_demo_laws.proofs.InputsAre.{acceptable, inputs_are}
use Rattle.tda_demo_laws.proofs.inputs.demo_inputs.Goals as goal

on_ok : {A E : Type 0} (P Q : A → Type 0) (r : Result A E) → ((x : A) → P x → Q x) → IfOk r P → IfOk r Q
on_ok P Q (Ok x) f h = f x h
on_ok P Q (Err e) f h = h

pub read_files-requires : goal.read_files-requires
read_files-requires c =
    let e = c.in_ok-files.ensures in
    acceptable c.args.number c.args.size c.requires.some c.requires.few c.in_ok-files.files
    (record { schema = e.schema; spine = e.spine; facilities = e.facilities; records = e.records })

pub returns : goal.returns
returns c =
    let e = c.in_ok-files.ensures in
    on_ok _ _ c.read_files.result (λ d read.
    inputs_are c.args.number c.args.size c.requires.some c.requires.few c.in_ok-files.files
    (record { schema = e.schema; spine = e.spine; facilities = e.facilities; records = e.records }) d read e.seed e.place e.budget) c.read_files.ensures
