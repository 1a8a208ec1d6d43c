-- Messages that are sent one by one.
use Rattle.std.proofs.Common.{◌≡◌, ℕ, ◌+◌, List, ◌++◌, length, map, ◌∙◌, ap, sym, arith, ◌≤◌}
use Rattle.std.specs.List.{sum, sum_by}
use Rattle.std.proofs.lemmas.List.{map-append}
use Rattle.std.proofs.lemmas.List.Sums.{sum-map, sum_by-append}
use Rattle.small_card.specs.Lists.{Every}
use Rattle.small_card.proofs.ListLemmas.{every_append}
use Rattle.esipa_codec.specs.Spelling.{to_eim, to_ipa}
use Rattle.esipa_codec.specs.declared.messages.Post.{Post}
use Rattle.small_world.specs.Octets.{most_octets_sent}
use Rattle.small_world.specs.declared.reply.Reply.{Reply}
use Rattle.world_network.specs.Mails.{IsMail, IsPost, IsReply, post_letter, reply_letter, posts_octets, replies_octets, with_posts, with_replies}
use Rattle.world_network.specs.declared.mail.Letter.{Letter}
use Rattle.world_network.specs.declared.mail.Mail.{Mail}

abbrev pub post_len : Post → ℕ
post_len p = length (to_eim p.message)

abbrev pub reply_len : Reply → ℕ
reply_len r = length (to_ipa r.message)

pub sums_append : {X : Type 0} (f : X → ℕ) (xs ys : List X) → sum (map f (xs ++ ys)) ≡ sum (map f xs) + sum (map f ys)
sums_append f xs ys = sum-map f (xs ++ ys) ∙ sum_by-append f xs ys ∙ ap (λ n. n + sum_by f ys) (sym (sum-map f xs)) ∙ ap (λ n. sum (map f xs) + n) (sym (sum-map f ys))

-- What is still to be sent, while messages are sent.
pub record IsSending (all : List Post) (first now : Mail) (rest : List Post) : Type 0 where
  pub total : with_posts all first ≡ with_posts rest now
  pub few : now.octets ≤ most_octets_sent
  pub fit : Every IsPost rest

-- The mail after messages were sent.
pub posts_stand : (m : Mail) (ps qs : List Post) (rs : List Reply) → IsMail m ps rs → Every IsPost qs → IsMail (with_posts qs m) (ps ++ qs) rs
posts_stand m ps qs rs h f = record {
  to_eims = ap (λ (ls : List Letter). ls ++ map post_letter qs) h.to_eims ∙ sym (map-append post_letter ps qs);
  to_ipa = h.to_ipa;
  octets = (let k : posts_octets (ps ++ qs) ≡ posts_octets ps + posts_octets qs = sums_append post_len ps qs in let o = h.octets in omega (arith, k, o));
  posts_fit = every_append IsPost ps qs h.posts_fit f;
  replies_fit = h.replies_fit;
}

pub replies_stand : (m : Mail) (ps : List Post) (rs qs : List Reply) → IsMail m ps rs → Every IsReply qs → IsMail (with_replies qs m) ps (rs ++ qs)
replies_stand m ps rs qs h f = record {
  to_eims = h.to_eims;
  to_ipa = ap (λ (ls : List Letter). ls ++ map reply_letter qs) h.to_ipa ∙ sym (map-append reply_letter rs qs);
  octets = (let k : replies_octets (rs ++ qs) ≡ replies_octets rs + replies_octets qs = sums_append reply_len rs qs in let o = h.octets in omega (arith, k, o));
  posts_fit = h.posts_fit;
  replies_fit = every_append IsReply rs qs h.replies_fit f;
}
