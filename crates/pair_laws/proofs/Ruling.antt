-- A record of a creation is answered by the step of its token.
use Rattle.std.proofs.Common.{◌≡◌, ℕ, ◌<◌, ◌≤◌, ◌^◌, lit<, lit≤, true, refl, ap, sym, ◌∙◌, List, [], ◌∷◌, length, take, Option, None, Some, Ok, append-nil, arith}
use Rattle.std.specs.Prelude.{◌==◌}
use Rattle.std.proofs.lemmas.Bool.{eq-eqb}
use Rattle.std.proofs.lemmas.Nat.{from_be_bytes-to_be_bytes_8}
use Rattle.rpc_msgs.specs.Words.{opaque}
use Rattle.rpc_msgs.specs.Xdr.{opaque_at}
use Rattle.rpc_msgs.specs.Calls.{CallValue, secure_call, call_octets, call_at}
use Rattle.rpc_msgs.proofs.CallLaws.{call-only}
use Rattle.rpc_msgs.proofs.WordLengths.{length-opaque}
use Rattle.rpc_msgs.proofs.XdrLaws.{opaque_law}
use Rattle.rpcsec_msgs.specs.Cred.{CredValue, cred_octets, cred_at}
use Rattle.rpcsec_msgs.proofs.BodyLaws.{end-only}
use Rattle.rpcsec_msgs.proofs.CredLaws.{cred-only}
use Rattle.accept_book.specs.Served.{one_opaque}
use Rattle.accept_book.specs.RecordShown.{KeptAnswers, Asked, AskedStep, asking, Shown, Ruling, handle_of, handle_id}
use Rattle.accept_book.specs.RecordRule.{stepped, ask_step, record_ruling, call_ruling, creation_ruling}
use Rattle.accept_book.specs.declared.book_answer.Admitted.{Admitted}
use Rattle.accept_book.specs.declared.book_answer.Negotiated.{Negotiated}
use Rattle.rpcsec_bodies.specs.declared.service.Service.{Service}
use Rattle.gss_client.specs.declared.terms.Terms.{Terms}
use Rattle.rpcsec_bodies.specs.declared.service.Service.TheVariants as services
use Rattle.rpc_msgs.specs.declared.numbers.TheConstants.{NULL}
use Rattle.rpcsec_bodies.specs.Service.{number_of}
use Rattle.gss_client.specs.Calling.{creation_cred, creation_call}
use Rattle.rpc_program.specs.Programs.{ProgramSays}
use Rattle.rpc_program.specs.declared.program.ProgramId.{ProgramId}
use Rattle.pair_laws.specs.Answering.{Server}
use Rattle.pair_laws.specs.HonestCalls.{IsToServer}
use Rattle.gss_client.proofs.CallLengths.{cred-fits, call-fits}

one-token : (token : List ℕ) → length token ≤ 65536 → one_opaque (opaque token) ≡ Ok token
one-token token few =
    let end : ℕ = length (opaque token) in
    let read : opaque_at 65536 (record { octets = opaque token; end = end }) ≡ Ok (token, record { octets = []; end = end }) =
    ap (λ (zs : List ℕ). opaque_at 65536 (record { octets = zs; end = end })) (sym (append-nil (opaque token))) ∙ (opaque_law 65536 (lit< tt)).only token [] end few in
    rw (read, end-only end) refl

pub few-services : (service : Service) → number_of service < 2 ^ 32
few-services services.None = lit< tt
few-services services.Integrity = lit< tt
few-services services.Privacy = lit< tt

-- the procedure and the handle of a call of a new context, and of one that was opened
abbrev pub proc_for : Option ℕ → ℕ
proc_for None = 1
proc_for (Some id) = 2

abbrev pub handle_for : Option ℕ → List ℕ
handle_for None = []
handle_for (Some id) = handle_of id

-- an id that a handle may have
abbrev pub IsId : Option ℕ → Type 0
IsId None = Unit {0}
IsId (Some id) = id < 2 ^ 64

abbrev cred_of : Terms → Option ℕ → CredValue
cred_of terms id = creation_cred terms (proc_for id) (handle_for id)

-- the call that is heard
abbrev pub creation_value : ProgramId → Terms → ℕ → Option ℕ → List ℕ → CallValue
creation_value program terms xid id token = secure_call xid program.number program.version NULL (cred_octets (cred_of terms id)) (record { flavour = 0; body = [] }) (opaque token)

handle-length : (id : ℕ) → length (handle_of id) ≡ 8
handle-length id = refl

handle-few : (id : Option ℕ) → length (handle_for id) ≤ 64
handle-few None = lit≤ tt
handle-few (Some id) = omega (arith, handle-length id)

short-cred : (terms : Terms) (id : Option ℕ) → length (cred_octets (cred_of terms id)) ≤ 400
short-cred terms id = cred-fits (cred_of terms id) (handle-few id)

-- the call of the server's program
spelled : (program : ProgramSays) (terms : Terms) (xid : ℕ) (id : Option ℕ) (token : List ℕ) → IsToServer program terms → creation_call terms xid (proc_for id) (handle_for id) token ≡ call_octets (creation_value program.id terms xid id token)
unfolding creation_call
spelled program terms xid id token called =
    ap (λ (n : ℕ). call_octets (secure_call xid n terms.version NULL (cred_octets (cred_of terms id)) (record { flavour = 0; body = [] }) (opaque token))) called.number
    ∙ ap (λ (version : ℕ). call_octets (secure_call xid program.id.number version NULL (cred_octets (cred_of terms id)) (record { flavour = 0; body = [] }) (opaque token))) called.version

reads : (program : ProgramSays) (terms : Terms) (xid : ℕ) (id : Option ℕ) (token : List ℕ) → IsToServer program terms → xid < 2 ^ 32 → call_at (creation_call terms xid (proc_for id) (handle_for id) token) ≡ Ok (creation_value program.id terms xid id token)
reads program terms xid id token called fits = ap call_at (spelled program terms xid id token called) ∙ call-only (creation_value program.id terms xid id token) (record {
  xid = fits;
  program = called.fits.number;
  version = called.fits.version;
  procedure = lit< tt;
  cred = record { flavour = lit< tt; body = short-cred terms id };
  verf = record { flavour = lit< tt; body = lit≤ tt };
  header = refl;
})

cred-is : (terms : Terms) (id : Option ℕ) → cred_at (cred_octets (cred_of terms id)) ≡ Ok (cred_of terms id)
cred-is terms None = cred-only (creation_cred terms 1 []) (record { proc = lit≤ tt; seq = lit< tt; service = few-services terms.service; served = refl; context = lit≤ tt })
cred-is terms (Some id) = cred-only (creation_cred terms 2 (handle_of id)) (record { proc = lit≤ tt; seq = lit< tt; service = few-services terms.service; served = refl; context = omega (arith, handle-length id) })

abbrev pub creation_shown : Terms → ℕ → Option ℕ → List ℕ → KeptAnswers → Server → Shown
creation_shown terms xid id token kept serves = record { record_octets = creation_call terms xid (proc_for id) (handle_for id) token; call = creation_value serves.serving.program.id terms xid id token; now = kept.now; draws = kept.draws; serves = serves.serving }

id-again : (id : ℕ) → id < 2 ^ 64 → handle_id (handle_of id) ≡ Some id
id-again id h = ap Some (from_be_bytes-to_be_bytes_8 id h)

same-number : (n : ℕ) → (n == n) ≡ true
same-number n = eq-eqb n n refl

-- the record asks for the step
pub asks : (terms : Terms) (xid : ℕ) (id : Option ℕ) (token : List ℕ) (kept : KeptAnswers) (serves : Server) → IsToServer serves.serving.program terms → xid < 2 ^ 32 → IsId id → length token ≤ 65536
    → record_ruling (creation_call terms xid (proc_for id) (handle_for id) token) kept serves.serving ≡ ask_step (creation_shown terms xid id token kept serves) id token kept.negotiated
unfolding record_ruling call_ruling creation_ruling
asks terms xid None token kept serves called fits is few = rw (reads serves.serving.program terms xid None token called fits) (rw (cred-is terms None) (rw (same-number serves.serving.program.id.number, same-number serves.serving.program.id.version, one-token token few) refl))
asks terms xid (Some id) token kept serves called fits is few = rw (reads serves.serving.program terms xid (Some id) token called fits) (rw (cred-is terms (Some id)) (rw (same-number serves.serving.program.id.number, same-number serves.serving.program.id.version, one-token token few, id-again id is) refl))

-- the one question of a record, and its answer
pub record IsAsked (id : Option ℕ) (token : List ℕ) (kept : KeptAnswers) (other : Option ℕ) (others : List ℕ) (answer : Negotiated) (ruling : Ruling) (s : Shown) : Type 0 where
  pub id_is : other ≡ id
  pub token_is : others ≡ token
  pub is_kept : kept.negotiated ≡ Some answer
  pub ruled : ruling ≡ asking (AskedStep id token s.now (take 66 s.draws) answer) (stepped s answer.answer)

was-asked : (s : Shown) (id other : Option ℕ) (token others : List ℕ) (kept : KeptAnswers) (found : Option Negotiated) (answer : Negotiated) → kept.negotiated ≡ found
    → (ask_step s id token found).asked ≡ AskedStep other others s.now (take 66 s.draws) answer ∷ [] → IsAsked id token kept other others answer (ask_step s id token found) s
was-asked s id other token others kept None answer e asked = absurd cc
was-asked s id other token others kept (Some found) answer e asked =
    let first : ◌≡◌ {A = Asked Admitted} (AskedStep id token s.now (take 66 s.draws) found) (AskedStep other others s.now (take 66 s.draws) answer) = cc in
    let same : found ≡ answer = cc in
    record {
      id_is = cc;
      token_is = cc;
      is_kept = e ∙ ap Some same;
      ruled = ap (λ (n : Negotiated). asking (AskedStep id token s.now (take 66 s.draws) n) (stepped s n.answer)) same;
    }

pub asked-step : (terms : Terms) (xid : ℕ) (id other : Option ℕ) (token others : List ℕ) (kept : KeptAnswers) (serves : Server) (answer : Negotiated) → IsToServer serves.serving.program terms → xid < 2 ^ 32 → IsId id → length token ≤ 65536
    → (record_ruling (creation_call terms xid (proc_for id) (handle_for id) token) kept serves.serving).asked ≡ AskedStep other others kept.now (take 66 kept.draws) answer ∷ []
    → IsAsked id token kept other others answer (record_ruling (creation_call terms xid (proc_for id) (handle_for id) token) kept serves.serving) (creation_shown terms xid id token kept serves)
asked-step terms xid id other token others kept serves answer called fits is few asked =
    let a = asks terms xid id token kept serves called fits is few in
    let w = was-asked (creation_shown terms xid id token kept serves) id other token others kept kept.negotiated answer refl (sym (ap (λ (r : Ruling). r.asked) a) ∙ asked) in
    record { id_is = w.id_is; token_is = w.token_is; is_kept = w.is_kept; ruled = a ∙ w.ruled }

opaque-fits : (token : List ℕ) → length token ≤ 65536 → length (opaque token) ≤ 130000
opaque-fits token few = omega (arith, length-opaque token)

-- it fits into a record
pub creation-fits : (terms : Terms) (xid : ℕ) (id : Option ℕ) (token : List ℕ) → length token ≤ 65536 → length (creation_call terms xid (proc_for id) (handle_for id) token) ≤ 131072
unfolding creation_call
creation-fits terms xid id token few = call-fits xid terms.program terms.version NULL (cred_octets (cred_of terms id)) (record { flavour = 0; body = [] }) (opaque token) (short-cred terms id) (lit≤ tt) (opaque-fits token few)
