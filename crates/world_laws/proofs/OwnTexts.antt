-- What an initiator's texts of SCRAM say: its own user, nonce and binding data.
use Rattle.std.proofs.Common.{◌≡◌, ℕ, zero, suc, ◌+◌, ◌*◌, ◌/◌, ◌<◌, true, refl, sym, ap, ◌∙◌, subst, arith, List, [], ◌∷◌, ◌++◌, append-nil, lit<, length, take, drop, slice_index, Option, None, Some, Result, Ok, Err}
use Rattle.std.proofs.lemmas.List.{length-take-le, length-drop}
use Rattle.gss_base.specs.Bindings.{hash_of}
use Rattle.gss_base.specs.declared.mech.MechKind.TheVariants as kinds
use Rattle.ap_exchange.specs.Draws.{drawn_nonce}
use Rattle.scram_mech.specs.declared.run.Class.TheVariants.{Printable}
use Rattle.scram_mech.specs.declared.refusal.Stuck.{Stuck}
use Rattle.scram_mech.specs.declared.refusal.ScramRefusal.{ScramRefusal}
use Rattle.scram_mech.specs.Reading.{in_text}
use Rattle.scram_mech.specs.State.{some}
use Rattle.scram_mech.specs.Formats.{Value, End, pieces_of}
use Rattle.scram_mech.specs.Base64.{encoded}
use Rattle.scram_mech.specs.Grammar.{IsName, IsNonce, AreOctets}
use Rattle.scram_mech.specs.Judging.{judged, are_rounds}
use Rattle.scram_bindings.specs.Carried.{data_of}
use Rattle.scram_mech.specs.FirstText.{first_of, first_text}
use Rattle.scram_mech.specs.SecondText.{Second, second_of}
use Rattle.scram_mech.specs.ThirdText.{third_of, bare_text, with_proof}
use Rattle.scram_mech.specs.Secrets.{Secret, client_key, stored_key, server_key, proof_of, key_of_client}
use Rattle.scram_mech.specs.MechMaking.{proof_making}
use Rattle.scram_mech.specs.AuthParts.{AuthParts, auth_parts}
use Rattle.scram_mech.specs.Initiator.{InitModel, InitStarted, InitAnswered, init_started, secret_of, bare_of, auth_of, answer_with, init_answered}
use Rattle.scram_mech.specs.Laws.{Proves, Laws as ScramLaws}
use Rattle.scram_mech.proofs.Pieces.{Spelled, bind_ok, pieces_of-found}
use Rattle.scram_mech.proofs.ValueGrammar.{run-found}
use Rattle.scram_mech.proofs.Written.{first-read, third-read, encoded-nonce, length-encoded}
use Rattle.scram_mech.proofs.Masks.{length-proof, proof-octets}
use Rattle.spnego_core.specs.declared.setup.MechCred.TheVariants as creds
use Rattle.spnego_core.specs.Ends.{PlainSetup}
use Rattle.spnego_core.specs.InitLaws.{IsFirstText}
use Rattle.spnego_core.specs.InitMech.{cred_for}
use Rattle.world_laws.specs.Setups.{IsSetup}

-- ---- a user that was judged

text-ok : {A : Type 0} (text : List ℕ) (r : Result A Stuck) (x : A) → in_text text r ≡ Ok x → r ≡ Ok x
text-ok text (Ok y) x e = cc
text-ok text (Err d) x e = absurd cc

named-by : (values : List (List ℕ)) (text rest : List ℕ) → Spelled (Value (some Printable 255) ∷ End ∷ []) values text rest → IsName text
named-by [] text rest s = absurd s
named-by (v ∷ values) text rest s =
    let back : s.0 ≡ [] = s.3.0 in
    let same : text ≡ v = s.1 ∙ ap (λ (b : List ℕ). v ++ b) back ∙ append-nil v in
    let r = run-found Printable 255 v s.0 s.2 in
    subst (λ (os : List ℕ). IsName os) (sym same) (record { each = r.each; some = r.some; few = r.few })

judged-name : (user : List ℕ) (u : Unit {0}) → judged Printable 255 user ≡ Ok u → IsName user
unfolding judged
judged-name user u e =
    let b = bind_ok (in_text user (pieces_of (Value (some Printable 255) ∷ End ∷ []) user)) _ u e in
    let s = pieces_of-found (Value (some Printable 255) ∷ End ∷ []) b.0 user (text-ok user (pieces_of (Value (some Printable 255) ∷ End ∷ []) user) b.0 b.1) in
    named-by b.0 user s.0 s.1

-- ---- the first text

pub record Began (own : PlainSetup) (end : InitModel) : Type 0 where
  pub user : List ℕ
  pub password : List ℕ
  pub is_own : cred_for own.list kinds.Scram ≡ Some (creds.Scram user password)
  pub named : IsName user
  pub end_is : end ≡ record { user = user; password = password; nonce = encoded (drawn_nonce own.draws); bindings = own.bindings }

abbrev given : InitStarted → Result InitStarted ScramRefusal
given s = Ok s

started-is : (a b : InitStarted) → given a ≡ given b → a ≡ b
started-is a b e = cc

pub began : (own : PlainSetup) (end : InitModel) → IsFirstText own end → Began own end
unfolding init_started
began own end f = by f.user f.password f.is_own f.started f.starts f.waits
  where
    by : (user password : List ℕ) → cred_for own.list kinds.Scram ≡ Some (creds.Scram user password) → (started : InitStarted) → init_started user password (drawn_nonce own.draws) own.bindings ≡ Ok started → end ≡ started.end → Began own end
    by user password is_own started e waits =
        let b = bind_ok (judged Printable 255 user) _ started e in
        let c = bind_ok (judged Printable 1024 password) _ started b.2 in
        record {
          user = user;
          password = password;
          is_own = is_own;
          named = judged-name user b.0 b.1;
          end_is = waits ∙ ap (λ (s : InitStarted). s.end) (sym (started-is _ started c.2));
        }

-- ---- octets of draws

abbrev AreBytes : List ℕ → Type 0
AreBytes octets = (i : ℕ) → slice_index octets i < 256

bytes-drop : (n : ℕ) (xs : List ℕ) → AreBytes xs → AreBytes (drop n xs)
bytes-drop zero xs b = b
bytes-drop (suc n) [] b = b
bytes-drop (suc n) (x ∷ xs) b = bytes-drop n xs (λ i. b (suc i))

bytes-take : (n : ℕ) (xs : List ℕ) → AreBytes xs → AreBytes (take n xs)
bytes-take zero xs b i = omega arith
bytes-take (suc n) [] b i = b i
bytes-take (suc n) (x ∷ xs) b zero = b zero
bytes-take (suc n) (x ∷ xs) b (suc i) = bytes-take n xs (λ j. b (suc j)) i

pub nonce-octets : (own : PlainSetup) → IsSetup own → (i : ℕ) → slice_index (drawn_nonce own.draws) i < 256
nonce-octets own s = bytes-take 18 (drop 48 own.draws) (bytes-drop 48 own.draws s.draws.each)

nonce-long : (own : PlainSetup) → IsSetup own → length (drawn_nonce own.draws) ≡ 18
nonce-long own s = length-take-le 18 (drop 48 own.draws) (omega (arith, length-drop 48 own.draws, s.draws.enough))

own-nonce : (own : PlainSetup) → IsSetup own → IsNonce 232 (encoded (drawn_nonce own.draws))
own-nonce own s =
    let size : length (encoded (drawn_nonce own.draws)) ≡ 4 * ((length (drawn_nonce own.draws) + 2) / 3) = length-encoded (drawn_nonce own.draws) in
    let long : length (drawn_nonce own.draws) ≡ 18 = nonce-long own s in
    record { each = encoded-nonce (drawn_nonce own.draws) (nonce-octets own s); some = omega (arith, size, long); few = omega (arith, size, long) }

own-data : (bindings : Option (List ℕ)) → ((application : List ℕ) → bindings ≡ Some application → AreOctets 1 32768 application) → AreOctets 0 32768 (data_of bindings)
own-data None s = record { each = λ i. lit< tt; enough = omega arith; few = omega arith }
own-data (Some application) s = let a = s application refl in record { each = a.each; enough = omega arith; few = a.few }

-- ---- the proof and what follows it

abbrev pub secret_with : List ℕ → AuthParts → Secret
secret_with password parts = record { password = password; salt = parts.salt; rounds = parts.rounds }

-- what an initiator answered a second text with
pub record Told (own : PlainSetup) (answered : InitAnswered) : Type 0 where
  pub user : List ℕ
  pub password : List ℕ
  pub is_own : cred_for own.list kinds.Scram ≡ Some (creds.Scram user password)
  pub auth : List ℕ
  pub parts : AuthParts
  pub reads : auth_parts auth ≡ Some parts
  pub name : parts.name ≡ user
  pub nonce : parts.client ≡ encoded (drawn_nonce own.draws)
  pub binding : parts.binding ≡ data_of own.bindings
  pub ranged : are_rounds parts.rounds ≡ true
  pub makes : answered.makes ≡ proof_making (stored_key (secret_with password parts)) auth (proof_of (secret_with password parts) auth) ∷ []
  pub end : answered.end ≡ record {
    user = user;
    hash = hash_of own.bindings;
    auth = auth;
    server = server_key (secret_with password parts);
    key = key_of_client (stored_key (secret_with password parts)) (client_key (secret_with password parts)) auth;
  }

abbrev begun_with : PlainSetup → List ℕ → List ℕ → InitModel
begun_with own user password = record { user = user; password = password; nonce = encoded (drawn_nonce own.draws); bindings = own.bindings }

told-by : (scram : ScramLaws) (own : PlainSetup) (user password : List ℕ) → IsSetup own → cred_for own.list kinds.Scram ≡ Some (creds.Scram user password) → IsName user → (text : List ℕ) (second : Second) → second_of text ≡ Ok second → are_rounds second.rounds ≡ true
    → Told own (answer_with (begun_with own user password) (bare_of (begun_with own user password) second) (secret_of (begun_with own user password) second) (auth_of (begun_with own user password) text second))
told-by scram own user password s is_own named text second reads ranged =
    let nonce : List ℕ = encoded (drawn_nonce own.draws) in
    let fresh : IsNonce 232 nonce = own-nonce own s in
    let bound : AreOctets 0 32768 (data_of own.bindings) = own-data own.bindings s.bound in
    let later : IsNonce 256 second.nonce = (scram.second_found text second reads).fresh in
    let some_secret : Secret = record { password = []; salt = []; rounds = 0 } in
    let proof : List ℕ = proof_of some_secret [] in
    let first_read : first_of (first_text user nonce) ≡ Ok (record { name = user; nonce = nonce }) = first-read user nonce named.each named.some named.few fresh.each fresh.some fresh.few in
    let third_read : third_of (with_proof (bare_text (data_of own.bindings) second.nonce) proof) ≡ Ok (record { binding = data_of own.bindings; nonce = second.nonce; proof = proof; bare = bare_text (data_of own.bindings) second.nonce }) =
    third-read (data_of own.bindings) second.nonce proof bound.each bound.few later.each later.some later.few (proof-octets some_secret []) (length-proof some_secret []) in
    let parts = scram.parts (first_text user nonce) text (with_proof (bare_text (data_of own.bindings) second.nonce) proof) (record { name = user; nonce = nonce }) second
    (record { binding = data_of own.bindings; nonce = second.nonce; proof = proof; bare = bare_text (data_of own.bindings) second.nonce }) first_read reads third_read in
    record {
      user = user;
      password = password;
      is_own = is_own;
      auth = auth_of (begun_with own user password) text second;
      parts = record { name = user; client = nonce; nonce = second.nonce; salt = second.salt; rounds = second.rounds; binding = data_of own.bindings; last_nonce = second.nonce };
      reads = parts;
      name = refl;
      nonce = refl;
      binding = refl;
      ranged = ranged;
      makes = refl;
      end = refl;
    }

pub told : (scram : ScramLaws) (own : PlainSetup) → IsSetup own → (end : InitModel) → IsFirstText own end → (text : List ℕ) (answered : InitAnswered) → init_answered end text ≡ Ok answered → Told own answered
told scram own s end first text answered e = by (began own end first) (scram.proves end text answered e)
  where
    by : Began own end → Proves end text answered → Told own answered
    by b p = subst (λ (a : InitAnswered). Told own a) (sym (p.same ∙ ap (λ (i : InitModel). answer_with i (bare_of i p.second) (secret_of i p.second) (auth_of i text p.second)) b.end_is))
        (told-by scram own b.user b.password s b.is_own b.named text p.second p.read p.ranged)
