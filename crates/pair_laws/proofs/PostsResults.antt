-- What the program of posts gives is a result of what its client asks.
use Rattle.std.proofs.Common.{◌≡◌, ℕ, ◌<◌, ◌≤◌, ◌^◌, lit<, ◌+◌, Bool, true, false, refl, ap, ◌∙◌, arith, List, [], ◌∷◌, length, Option, Some, None}
use Rattle.std.specs.Prelude.{◌==◌, if◌then◌else◌}
use Rattle.std.specs.Str.{is_utf8}
use Rattle.krb_tokens.proofs.Octets.{octets_nil}
use Rattle.rpc_msgs.specs.Words.{word, opaque}
use Rattle.rpc_msgs.proofs.WordLengths.{length-word}
use Rattle.posts_program.specs.Posts.{are_args, result_of, posts_says}
use Rattle.posts_program.proofs.BodyLengths as bodies
use Rattle.posts_client.specs.declared.procedure.Procedure.{Procedure}
use Rattle.posts_client.specs.declared.procedure.Procedure.TheVariants as procedures
use Rattle.posts_client.specs.Procedure.{procedure_number, is_result}
use Rattle.sha1.specs.Sha1.{sha1}
use Rattle.gss_base.specs.declared.mark.Mark.{Mark}
use Rattle.gss_base.specs.declared.mech.MechKind.{MechKind}
use Rattle.accept_core.specs.Entering.{noted}
use Rattle.accept_core.specs.declared.entry.Entry.{Entry}
use Rattle.accept_core.specs.declared.entry.Entry.TheVariants.{Opened, Went, Settled, Call}
use Rattle.accept_book.specs.Honest.{IsOctets}
use Rattle.gss_client.specs.Conferring.{DueCall}
use Rattle.pair_laws.specs.Creation.{history_with, Enters}
use Rattle.pair_laws.specs.Rows.{history_after, results_by}
use Rattle.pair_laws.specs.Posts.{PostsLaw, posts_in, posts_with, posts_behind, posts_results, posts_server}
use Rattle.pair_laws.proofs.SpelledAlone.{alone-read}
use Rattle.pair_laws.proofs.SessionParts.{word-octets, opaque-octets}

pub result-octets : (procedure : ℕ) (args name : List ℕ) (count : ℕ) → IsOctets args → IsOctets name → IsOctets (result_of procedure args name count)
result-octets procedure args name count h k = chosen (procedure == 0) (procedure == 1) (procedure == 2)
  where
    chosen : (null echo whoami : Bool) → IsOctets (if null then [] else if echo then args else if whoami then opaque name else word count)
    chosen true echo whoami = octets_nil
    chosen false true whoami = h
    chosen false false true = opaque-octets name k
    chosen false false false = word-octets count

-- ---- results

pub result-fits : (procedure : Procedure) (args name : List ℕ) (count : ℕ) → are_args (procedure_number procedure) args ≡ true → length name ≤ 255 → is_utf8 name ≡ true → is_result procedure (result_of (procedure_number procedure) args name count) ≡ true
unfolding is_result
result-fits procedures.Null args name count h few text = refl
result-fits procedures.Echo args name count h few text = h
result-fits procedures.Whoami args name count h few text = rw (alone-read 1024 name (lit< tt) (omega (arith, few))) text
result-fits procedures.Post args name count h few text = rw (length-word count) refl
result-fits procedures.Count args name count h few text = rw (length-word count) refl

pub posts-fits : (procedure : Procedure) → procedure_number procedure < 2 ^ 32
posts-fits procedures.Null = lit< tt
posts-fits procedures.Echo = lit< tt
posts-fits procedures.Whoami = lit< tt
posts-fits procedures.Post = lit< tt
posts-fits procedures.Count = lit< tt

pub posts-has : (procedure : Procedure) → posts_says.has (procedure_number procedure) ≡ true
posts-has procedures.Null = refl
posts-has procedures.Echo = refl
posts-has procedures.Whoami = refl
posts-has procedures.Post = refl
posts-has procedures.Count = refl

-- ---- counts

noted-posts : (mark : Option Mark) (id at : ℕ) (h : List Entry) → posts_in (noted mark id at h) ≡ posts_in h
noted-posts None id at h = refl
noted-posts (Some mark) id at h = refl

begun-posts : (id at i : ℕ) (mech : MechKind) (names : List ℕ) (lasts m : ℕ) (begun : Bool) (marks : List (Option Mark)) (h : List Entry) → posts_in (history_with id at (Settled i mech names lasts m) begun marks h) ≡ posts_in h
begun-posts id at i mech names lasts m begun [] h = refl
begun-posts id at i mech names lasts m false (mark ∷ []) h = noted-posts mark id at (Opened id at ∷ h)
begun-posts id at i mech names lasts m true (mark ∷ []) h = noted-posts mark id at h
begun-posts id at i mech names lasts m false (mark ∷ next ∷ marks) h = begun-posts id at i mech names lasts m true (next ∷ marks) (noted mark id at (Opened id at ∷ h)) ∙ noted-posts mark id at (Opened id at ∷ h)
begun-posts id at i mech names lasts m true (mark ∷ next ∷ marks) h = begun-posts id at i mech names lasts m true (next ∷ marks) (Went id at ∷ noted mark id at h) ∙ noted-posts mark id at h

-- a creation posts nothing
pub entered-posts : (id moment : ℕ) (kind : MechKind) (tokens : ℕ) (old new : List Entry) → Enters id moment kind tokens old new → posts_in new ≡ posts_in old
entered-posts id moment kind tokens old new e = ap posts_in e.is ∙ begun-posts id moment id kind e.names e.lasts moment false e.marks old

-- the calls and the end post what the calls post
pub after-posts : (id number : ℕ) (made : List DueCall) (h : List Entry) → posts_in (history_after id number made h) ≡ posts_behind (posts_in h) made
after-posts id number [] h = refl
after-posts id number (call ∷ later) h = after-posts id (number + 1) later (Call id number call.query.number (sha1 call.args) ∷ h)

-- and so the results are by the count
pub counted-results : (width : ℕ) (name : List ℕ) (id number : ℕ) (due : List DueCall) (h : List Entry) → results_by (posts_server width) name id number due h ≡ posts_results (posts_in h) name due
counted-results width name id number [] h = refl
counted-results width name id number (call ∷ later) h =
    ap (λ (rs : List (List ℕ)). result_of call.query.number call.args name (posts_with (posts_in h) call) ∷ rs) (counted-results width name id (number + 1) later (Call id number call.query.number (sha1 call.args) ∷ h))

-- ---- the law

pub posts-law : PostsLaw
posts-law procedure args name count posted named = record {
  taken = result-fits procedure args name count posted.proper named.size named.text;
  short = bodies.result-fits (procedure_number procedure) args name count (omega (arith, posted.size)) named.size;
  octets = result-octets (procedure_number procedure) args name count posted.octets named.octets;
}
