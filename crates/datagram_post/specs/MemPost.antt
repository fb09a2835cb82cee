-- What a post in memory still gives, and which of its calls fail.
use Rattle.std.specs.Prelude.{ℕ, List, [], ◌∷◌, take, drop, Option, None, Some}
use Rattle.sec_base.specs.Failures.{Failures}
use Rattle.datagram_post.specs.declared.mem_post.MemPost.{MemPost}

-- what is still to come, None for a wait in which nothing does
abbrev pub still_coming : MemPost → List (Option (List ℕ))
still_coming post = drop post.at post.coming.items

-- the next to come, as far as it fits; behind the last nothing comes any more
abbrev pub next_coming : List (Option (List ℕ)) → ℕ → Option (List ℕ)
next_coming [] room = None
next_coming (None ∷ more) room = None
next_coming (Some octets ∷ more) room = Some (take room octets)

-- which calls fail, of `recv` and `send` together
abbrev pub post_failures : MemPost → Failures
post_failures post = record { numbers = post.failing.items; calls = post.calls }
