-- The calls of a drill are such as the service takes.
use Rattle.std.proofs.Common.{◌≡◌, ◌≢◌, ◌<◌, ◌≤◌, ◌+◌, ◌*◌, ◌%◌, ℕ, zero, suc, List, [], ◌∷◌, length, refl, arith, ap}
use Rattle.std.specs.List.{AllByRecursion}
use Rattle.std.proofs.lemmas.Nat.{mod_below}
use Rattle.rpc_msgs.specs.Words.{opaque}
use Rattle.rpc_msgs.proofs.WordLengths.{length-opaque}
use Rattle.gss_client.specs.declared.terms.Terms.{Terms}
use Rattle.rpcsec_bodies.specs.declared.service.Service.{Service}
use Rattle.rpcsec_bodies.specs.declared.service.Service.TheVariants as services
use Rattle.accept_book.specs.Honest.{IsOctets}
use Rattle.posts_client.specs.declared.procedure.Procedure.{Procedure}
use Rattle.posts_client.specs.declared.procedure.Procedure.TheVariants.{Null, Echo, Whoami, Post, Count}
use Rattle.rpcsec_bodies.specs.Service.{number_of}
use Rattle.posts_program.specs.Posts.{posts_says}
use Rattle.posts_client.specs.Procedure.{procedure_number, query_of}
use Rattle.pair_laws.specs.Posts.{IsPosted}
use Rattle.pair_laws.specs.Running.{IsProper}
use Rattle.pair_laws.proofs.PostsResults.{posts-fits, posts-has}
use Rattle.pair_laws.proofs.SessionParts.{opaque-octets}
use Rattle.pair_laws.proofs.SpelledAlone.{one-fits}
use Rattle.drill_command.specs.Calls.{procedure_of, drawn_by, drawn_call, calls_from}
use Rattle.drill_command.specs.Rested.{IsPostsCall}
use Rattle.drill_plan.specs.Generator.{stepped, top_of, octets_from}

-- ---- drawn octets

one-more : (x : ℕ) (xs : List ℕ) → x < 256 → IsOctets xs → IsOctets (x ∷ xs)
one-more x xs h hs zero = h
one-more x xs h hs (suc i) = hs i

none : IsOctets []
none i = omega arith

top-small : (x : ℕ) → top_of (stepped x) < 256
top-small x = let h : stepped x < 18446744073709551616 = mod_below (x * 6364136223846793005 + 1442695040888963407) 18446744073709551616 (omega arith) in omega (arith, h)

octets-small : (count x : ℕ) → IsOctets (octets_from count x)
octets-small zero x = none
octets-small (suc count) x = one-more (top_of (stepped x)) (octets_from count (stepped x)) (top-small x) (octets-small count (stepped x))

octets-many : (count x : ℕ) → length (octets_from count x) ≡ count
octets-many zero x = refl
octets-many (suc count) x = ap suc (octets-many count (stepped x))

-- ---- drawn calls

opaque-small : (count x : ℕ) → count < 64 → length (opaque (octets_from count x)) ≤ 65540
opaque-small count x h = omega (arith, h, length-opaque (octets_from count x), octets-many count x)

-- a drawn call's arguments are its procedure's
posted-by : (procedure : Procedure) (x : ℕ) → IsPosted procedure (drawn_by procedure x).call.args
posted-by Null x = record { proper = refl; size = omega arith; octets = none }
posted-by Echo x =
    let count : ℕ = top_of (stepped x) % 64 in
    let few : count < 64 = mod_below (top_of (stepped x)) 64 (omega arith) in
    record {
      proper = one-fits (octets_from count (stepped x)) (omega (arith, few, octets-many count (stepped x)));
      size = opaque-small count (stepped x) few;
      octets = opaque-octets (octets_from count (stepped x)) (octets-small count (stepped x));
    }
posted-by Whoami x = record { proper = refl; size = omega arith; octets = none }
posted-by Post x =
    let count : ℕ = top_of (stepped x) % 64 in
    let few : count < 64 = mod_below (top_of (stepped x)) 64 (omega arith) in
    record {
      proper = one-fits (octets_from count (stepped x)) (omega (arith, few, octets-many count (stepped x)));
      size = opaque-small count (stepped x) few;
      octets = opaque-octets (octets_from count (stepped x)) (octets-small count (stepped x));
    }
posted-by Count x = record { proper = refl; size = omega arith; octets = none }

asked-by : (procedure : Procedure) (x : ℕ) → (drawn_by procedure x).call.query ≡ query_of procedure
asked-by Null x = refl
asked-by Echo x = refl
asked-by Whoami x = refl
asked-by Post x = refl
asked-by Count x = refl

posts-call : (procedure : Procedure) (x : ℕ) → IsPostsCall (drawn_by procedure x).call
posts-call procedure x = record { procedure = procedure; query = asked-by procedure x; args = posted-by procedure x }

-- a service that proves arguments is enough for each procedure
strong : (service : Service) → service ≢ services.None → 2 ≤ number_of service
strong services.None some = absurd (some refl)
strong services.Integrity some = omega arith
strong services.Privacy some = omega arith

needed : (procedure : Procedure) → number_of (posts_says.needs (procedure_number procedure)) ≤ 2
needed Null = omega arith
needed Echo = omega arith
needed Whoami = omega arith
needed Post = omega arith
needed Count = omega arith

made-proper : (terms : Terms) → terms.service ≢ services.None → (procedure : Procedure) (args : List ℕ) → IsPosted procedure args → IsProper posts_says terms (record { query = query_of procedure; args = args })
made-proper terms some procedure args p = record {
  fits = posts-fits procedure;
  served = posts-has procedure;
  proper = p.proper;
  protected = omega (arith, needed procedure, strong terms.service some);
  size = p.size;
  octets = p.octets;
}

proper-by : (terms : Terms) → terms.service ≢ services.None → (procedure : Procedure) (x : ℕ) → IsProper posts_says terms (drawn_by procedure x).call
proper-by terms some Null x = made-proper terms some Null _ (posted-by Null x)
proper-by terms some Echo x = made-proper terms some Echo _ (posted-by Echo x)
proper-by terms some Whoami x = made-proper terms some Whoami _ (posted-by Whoami x)
proper-by terms some Post x = made-proper terms some Post _ (posted-by Post x)
proper-by terms some Count x = made-proper terms some Count _ (posted-by Count x)

pub all-proper : (terms : Terms) → terms.service ≢ services.None → (count x : ℕ) → AllByRecursion (IsProper posts_says terms) (calls_from count x)
all-proper terms some zero x = tt
all-proper terms some (suc count) x = (proper-by terms some (procedure_of (top_of (stepped x) % 5)) (stepped x), all-proper terms some count (drawn_call x).next)

pub all-posted : (count x : ℕ) → AllByRecursion IsPostsCall (calls_from count x)
all-posted zero x = tt
all-posted (suc count) x = (posts-call (procedure_of (top_of (stepped x) % 5)) (stepped x), all-posted count (drawn_call x).next)

pub calls-many : (count x : ℕ) → length (calls_from count x) ≡ count
calls-many zero x = refl
calls-many (suc count) x = ap suc (calls-many count (drawn_call x).next)
