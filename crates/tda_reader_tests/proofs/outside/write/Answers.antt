use Rattle.std.specs.Prelude.{IfSome}
use Rattle.tda_io.specs.Outside.{IsOpen}
use Rattle.tda_io.proofs.Trays.{begun_open, grown_open}
use Rattle.tda_reader_tests.proofs.outside.write.Goals as goal

pub put-requires-clause-open : goal.put-requires-clause-open
put-requires-clause-open g c = begun_open c.args.name.now _ _ c.requires.told c.in_ok-begin.ensures.told

pub put-requires-2-clause-open : goal.put-requires-2-clause-open
put-requires-2-clause-open g c =
    let first : IfSome (g.O.Outbox.told c.begin.new.self) (IsOpen c.args.name.now) = begun_open c.args.name.now _ _ c.requires.told c.in_ok-begin.ensures.told in
    grown_open c.args.name.now c.args.first.now _ _ first c.in_ok-put.ensures.told

pub end-requires-clause-open : goal.end-requires-clause-open
end-requires-clause-open g c =
    let first : IfSome (g.O.Outbox.told c.begin.new.self) (IsOpen c.args.name.now) = begun_open c.args.name.now _ _ c.requires.told c.in_ok-begin.ensures.told in
    let second : IfSome (g.O.Outbox.told c.put.new.self) (IsOpen c.args.name.now) = grown_open c.args.name.now c.args.first.now _ _ first c.in_ok-put.ensures.told in
    grown_open c.args.name.now c.args.second.now _ _ second c.in_ok-put-2.ensures.told
