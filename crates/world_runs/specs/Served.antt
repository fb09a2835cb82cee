-- What a world of the program serves, and what its initiators call: the program of posts.
-- It isn't needed to read the headline.
use Rattle.std.specs.Prelude.{ℕ}
use Rattle.rpc_program.specs.Programs.{Serving}
use Rattle.posts_program.specs.Posts.{posts_says}
use Rattle.gss_client.specs.declared.terms.Terms.{Terms}
use Rattle.world_laws.specs.Initiators as initiators

-- the width of the windows that replies tell
abbrev pub told_width : ℕ
told_width = 128

-- the program of posts, with windows of this width
abbrev pub served : Serving
served = record { program = posts_says; width = told_width }

-- what initiators call: that program, by integrity
abbrev pub own_terms : Terms
own_terms = initiators.own_terms served
