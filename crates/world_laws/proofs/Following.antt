-- What the rule of a record says once the step that was due is answered.
use Rattle.std.proofs.Common.{◌≡◌, ℕ, Bool, true, false, refl, sym, ◌∙◌, List, take, Option, Some, None, Result, Ok, Err}
use Rattle.std.specs.Prelude.{◌==◌, ◌||◌, ◌&&◌, not, if◌then◌else◌}
use Rattle.std.proofs.lemmas.Option.{none-some}
use Rattle.rpc_msgs.specs.Calls.{CallValue, call_at}
use Rattle.rpc_msgs.specs.declared.call.CallRefusal.{CallRefusal}
use Rattle.rpc_msgs.specs.declared.call.CallRefusal.TheVariants.{Unreadable, NotCall, RpcVersion}
use Rattle.rpc_msgs.specs.declared.xdr_reader.XdrRefusal.{XdrRefusal}
use Rattle.rpcsec_msgs.specs.Cred.{CredValue, cred_at}
use Rattle.rpcsec_msgs.specs.declared.cred.CredRefusal.{CredRefusal}
use Rattle.accept_book.specs.Served.{one_opaque}
use Rattle.accept_book.specs.declared.book_answer.Admitted.{Admitted}
use Rattle.accept_book.specs.declared.book_answer.Negotiated.{Negotiated}
use Rattle.rpc_program.specs.Programs.{Serving}
use Rattle.accept_book.specs.RecordShown.{KeptAnswers, Question, Negotiate, Asked, AskedStep, Ruling, asking, Shown, handle_id}
use Rattle.accept_book.specs.RecordRule.{is_other_program, is_other_version_of_it, is_misplaced, plain_ruling, stepped, ask_step, continued, token_ruling, creation_ruling, id_ruling, cred_ruling, call_ruling, read_ruling, record_ruling}
use Rattle.world_laws.proofs.Due.{shown, plain-due, id-says}

-- the answers that were kept, with this one
abbrev pub answered : KeptAnswers → Negotiated → KeptAnswers
answered k answer = record { now = k.now; draws = k.draws; negotiated = Some answer; looked = k.looked; admitted = k.admitted; ended = k.ended }

-- the step's answer decides
pub record Decides (answer : Negotiated) (ruling : Ruling) : Type 0 where
  pub shown_by : Shown
  pub one : Asked Admitted
  pub is : ruling ≡ asking one (stepped shown_by answer.answer)

-- where the first asks for a step, the second is what its answer decides
abbrev Follows : Negotiated → Ruling → Ruling → Type 0
Follows answer before after = (id : Option ℕ) (token : List ℕ) (now : ℕ) (draws : List ℕ) → before.due ≡ Some (Negotiate id token now draws) → Decides answer after

none-follows : (answer : Negotiated) (found : Option Question) (after : Ruling) → found ≡ None
    → (id : Option ℕ) (token : List ℕ) (now : ℕ) (draws : List ℕ) → found ≡ Some (Negotiate id token now draws) → Decides answer after
none-follows answer found after e id token now draws due = absurd (none-some (Negotiate id token now draws) (sym e ∙ due))

if-follows : (answer : Negotiated) (b : Bool) (x y z w : Ruling) → Follows answer x z → Follows answer y w → Follows answer (if b then x else y) (if b then z else w)
if-follows answer true x y z w p q = p
if-follows answer false x y z w p q = q

row-follows : (answer : Negotiated) (b : Bool) (x y z w : Ruling) → x.due ≡ None → Follows answer y w → Follows answer (if b then x else y) (if b then z else w)
row-follows answer b x y z w e q = if-follows answer b x y z w (none-follows answer x.due z e) q

step-follows : (s : Shown) (id : Option ℕ) (token : List ℕ) (found : Option Negotiated) (answer : Negotiated) → Follows answer (ask_step s id token found) (ask_step s id token (Some answer))
step-follows s id token found answer other others now draws due = record { shown_by = s; one = AskedStep id token s.now (take 66 s.draws) answer; is = refl }

continued-follows : (s : Shown) (token : List ℕ) (id : Option ℕ) (found : Option Negotiated) (answer : Negotiated) → Follows answer (continued s token found id) (continued s token (Some answer) id)
continued-follows s token None found answer = none-follows answer None _ refl
continued-follows s token (Some id) found answer = step-follows s (Some id) token found answer

token-follows : (s : Shown) (cred : CredValue) (token : Result (List ℕ) XdrRefusal) (found : Option Negotiated) (answer : Negotiated)
    → Follows answer (token_ruling s cred found token) (token_ruling s cred (Some answer) token)
token-follows s cred (Err refusal) found answer = none-follows answer None _ refl
token-follows s cred (Ok token) found answer =
    if-follows answer (cred.proc == 1) (ask_step s None token found) (continued s token found (handle_id cred.context)) (ask_step s None token (Some answer)) (continued s token (Some answer) (handle_id cred.context))
    (step-follows s None token found answer) (continued-follows s token (handle_id cred.context) found answer)

creation-follows : (s : Shown) (cred : CredValue) (found : Option Negotiated) (answer : Negotiated) → Follows answer (creation_ruling s cred found) (creation_ruling s cred (Some answer))
unfolding creation_ruling
creation-follows s cred found answer =
    row-follows answer (is_other_program s) _ _ _ _ refl
    (row-follows answer (is_other_version_of_it s) _ (token_ruling s cred found (one_opaque s.call.args)) _ (token_ruling s cred (Some answer) (one_opaque s.call.args)) refl
    (token-follows s cred (one_opaque s.call.args) found answer))

later-follows : (octets : List ℕ) (kept : KeptAnswers) (serves : Serving) (call : CallValue) (cred : CredValue) (id : Option ℕ) (answer : Negotiated) (after : Ruling) → call_at octets ≡ Ok call → cred_at call.cred.body ≡ Ok cred
    → Follows answer (id_ruling (shown octets kept serves call) cred kept.looked kept.admitted kept.ended id) after
later-follows octets kept serves call cred id answer after read cred_read other token now draws due = absurd (id-says octets kept serves call cred id read cred_read (Negotiate other token now draws) due)

cred-follows : (octets : List ℕ) (kept : KeptAnswers) (serves : Serving) (call : CallValue) (cred : Result CredValue CredRefusal) (answer : Negotiated) → call_at octets ≡ Ok call → cred_at call.cred.body ≡ cred
    → Follows answer (cred_ruling (shown octets kept serves call) kept.negotiated kept.looked kept.admitted kept.ended cred)
    (cred_ruling (shown octets (answered kept answer) serves call) (Some answer) kept.looked kept.admitted kept.ended cred)
cred-follows octets kept serves call (Err refusal) answer read e = none-follows answer None _ refl
cred-follows octets kept serves call (Ok cred) answer read e =
    let s : Shown = shown octets kept serves call in
    let later : Ruling = id_ruling s cred kept.looked kept.admitted kept.ended (handle_id cred.context) in
    row-follows answer (is_misplaced call cred) _ _ _ _ refl
    (if-follows answer (cred.proc == 1 || cred.proc == 2) (creation_ruling s cred kept.negotiated) later (creation_ruling s cred (Some answer)) later
    (creation-follows s cred kept.negotiated answer) (later-follows octets kept serves call cred (handle_id cred.context) answer later read e))

call-follows : (octets : List ℕ) (kept : KeptAnswers) (serves : Serving) (call : CallValue) (answer : Negotiated) → call_at octets ≡ Ok call
    → Follows answer (call_ruling (shown octets kept serves call) kept.negotiated kept.looked kept.admitted kept.ended)
    (call_ruling (shown octets (answered kept answer) serves call) (Some answer) kept.looked kept.admitted kept.ended)
unfolding call_ruling
call-follows octets kept serves call answer read =
    let s : Shown = shown octets kept serves call in
    row-follows answer (not (call.cred.flavour == 0) && not (call.cred.flavour == 6)) _ _ _ _ refl
    (row-follows answer (call.cred.flavour == 0) (plain_ruling s) (cred_ruling s kept.negotiated kept.looked kept.admitted kept.ended (cred_at call.cred.body))
    (plain_ruling s) (cred_ruling s (Some answer) kept.looked kept.admitted kept.ended (cred_at call.cred.body)) (plain-due s)
    (cred-follows octets kept serves call (cred_at call.cred.body) answer read refl))

read-follows : (octets : List ℕ) (kept : KeptAnswers) (serves : Serving) (call : Result CallValue CallRefusal) (answer : Negotiated) → call_at octets ≡ call
    → Follows answer (read_ruling octets kept serves call) (read_ruling octets (answered kept answer) serves call)
read-follows octets kept serves (Err (Unreadable at)) answer e = none-follows answer None _ refl
read-follows octets kept serves (Err NotCall) answer e = none-follows answer None _ refl
read-follows octets kept serves (Err (RpcVersion xid)) answer e = none-follows answer None _ refl
read-follows octets kept serves (Ok call) answer e = call-follows octets kept serves call answer e

pub step-decides : (octets : List ℕ) (kept : KeptAnswers) (serves : Serving) (answer : Negotiated) (id : Option ℕ) (token : List ℕ) (now : ℕ) (draws : List ℕ) → (record_ruling octets kept serves).due ≡ Some (Negotiate id token now draws)
    → Decides answer (record_ruling octets (answered kept answer) serves)
unfolding record_ruling
step-decides octets kept serves answer id token now draws due = read-follows octets kept serves (call_at octets) answer refl id token now draws due
