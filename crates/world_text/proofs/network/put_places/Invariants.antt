use Rattle.std.proofs.Common.{◌≡◌, List, length, take, ◌++◌}
use Rattle.esipa_codec.specs.declared.messages.Post.{Post}
use Rattle.small_world.specs.Texts.{places_text}
use Rattle.world_text.proofs.network.put_places.Given as goal

abbrev pub invariant-loop-place : goal.invariant-loop-place
invariant-loop-place l = record {
  put : (posts : List Post) → length posts ≡ l.count → l.out ≡ l.fn.out ++ places_text l.first (take l.place posts);
  kept : take (length l.fn.out) l.out ≡ l.fn.out;
}
