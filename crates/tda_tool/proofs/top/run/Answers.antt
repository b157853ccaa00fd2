use Rattle.std.proofs.Common.{map, string_bytes}
use Rattle.tda_tool.proofs.Begun.{begun_alone}
use Rattle.tda_tool.proofs.Ran.{asks_by, begun_by, begun_when_due, writes_names_by}
use Rattle.tda_tool.proofs.top.run.Goals as goal

pub returns-in_err-publish-in-Ok-clause-asked : goal.returns-in_err-publish-in-Ok-clause-asked
returns-in_err-publish-in-Ok-clause-asked g c =
    let a = c.in-Ok.answer in asks_by a.cause (map string_bytes c.args.words.now) _ _ _ a c.in-Ok.ensures.suits c.in-Ok.ensures.asked

pub returns-in_err-publish-in-Ok-clause-begun : goal.returns-in_err-publish-in-Ok-clause-begun
returns-in_err-publish-in-Ok-clause-begun g c =
    let a = c.in-Ok.answer in begun_by (map string_bytes c.args.words.now) a _ _ (writes_names_by a.cause (map string_bytes c.args.words.now) _ a c.in-Ok.ensures.suits) c.publish.ensures.begun

pub returns-in_err-publish-in-Ok-clause-begun_when_due : goal.returns-in_err-publish-in-Ok-clause-begun_when_due
returns-in_err-publish-in-Ok-clause-begun_when_due g c =
    let a = c.in-Ok.answer in begun_when_due a.cause (map string_bytes c.args.words.now) _ a _ _ _ _ c.in-Ok.ensures.suits c.in-Ok.ensures.cause c.publish.ensures.begun

pub returns-in_ok-publish-in-Ok-clause-asked : goal.returns-in_ok-publish-in-Ok-clause-asked
returns-in_ok-publish-in-Ok-clause-asked g c =
    let a = c.in-Ok.answer in asks_by a.cause (map string_bytes c.args.words.now) _ _ _ a c.in-Ok.ensures.suits c.in-Ok.ensures.asked

pub returns-in_ok-publish-in-Ok-clause-begun : goal.returns-in_ok-publish-in-Ok-clause-begun
returns-in_ok-publish-in-Ok-clause-begun g c =
    let a = c.in-Ok.answer in begun_by (map string_bytes c.args.words.now) a _ _ (writes_names_by a.cause (map string_bytes c.args.words.now) _ a c.in-Ok.ensures.suits) c.publish.ensures.begun

pub returns-in_ok-publish-in-Ok-clause-begun_when_due : goal.returns-in_ok-publish-in-Ok-clause-begun_when_due
returns-in_ok-publish-in-Ok-clause-begun_when_due g c =
    let a = c.in-Ok.answer in begun_when_due a.cause (map string_bytes c.args.words.now) _ a _ _ _ _ c.in-Ok.ensures.suits c.in-Ok.ensures.cause c.publish.ensures.begun

pub returns-in-Err-clause-begun : goal.returns-in-Err-clause-begun
returns-in-Err-clause-begun g c = begun_alone _ _ _ c.tell_memory.ensures.begun
