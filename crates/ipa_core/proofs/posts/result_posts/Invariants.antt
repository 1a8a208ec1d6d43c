use Rattle.std.proofs.Common.{◌≡◌, map, ◌++◌}
use Rattle.esipa_codec.specs.Assistant.{post_of}
use Rattle.ipa_core.proofs.posts.result_posts.Given as goal

abbrev pub invariant-loop-kept : goal.invariant-loop-kept
invariant-loop-kept l = map post_of l.fn.results ≡ l.posts ++ map post_of l.kept-iterator.rest.items
