use Rattle.world_network.proofs.Sending.{IsSending}
use Rattle.world_network.proofs.mail.Mail.send_posts.Given as goal

abbrev pub invariant-loop-post : goal.invariant-loop-post
invariant-loop-post l = IsSending l.fn.posts l.initial.self l.self l.post-iterator.rest.items
