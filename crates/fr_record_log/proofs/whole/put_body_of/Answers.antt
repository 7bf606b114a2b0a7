use Rattle.fr_record_log.proofs.Putting.{one_body, no_body}
use Rattle.fr_record_log.proofs.whole.put_body_of.Goals as goal

pub returns-in_ok-push-in-Some : goal.returns-in_ok-push-in-Some
returns-in_ok-push-in-Some c =
    one_body c.args.bodies.now.items c.push.new.self.items c.tag_of-tag.result c.args.number c.args.version c.args.log.now.pushes c.in-Some.batch.now c.in_ok-batch-in-Some.batch c.tag_of-tag.ensures c.in-Some.ensures c.in_ok-batch-in-Some.ensures
    c.in_ok-push-in-Some.ensures.items

pub returns-in-None : goal.returns-in-None
returns-in-None c = no_body c.args.bodies.now.items c.tag_of-tag.result c.args.number c.args.version c.args.log.now.pushes c.tag_of-tag.ensures c.in-None.ensures
