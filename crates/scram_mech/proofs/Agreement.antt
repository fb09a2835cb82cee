-- An honest pair completes and agrees.
use Rattle.std.proofs.Common.{◌≡◌, ℕ, ◌<◌, ◌^◌, true, false, List, [], ◌∷◌, ◌++◌, length, take, Option, Some, Ok, nat_lt, nat_le, refl, sym, ap, arith, length-append}
use Rattle.std.proofs.lemmas.Grind.{common_steps}
use Rattle.std.proofs.lemmas.Bool.Decides.{nat_tests}
use Rattle.sha1.specs.Sha1.{sha1}
use Rattle.sec_base.specs.Moment.{greatest_moment}
use Rattle.gss_base.specs.Bindings.{hash_of}
use Rattle.gss_base.specs.Mech.{oid_of}
use Rattle.gss_base.specs.declared.mech.MechKind.TheVariants.{Scram}
use Rattle.der_core.specs.Frame.{framed}
use Rattle.krb_derive.proofs.Tags.{same_tag}
use Rattle.scram_mech.specs.declared.run.Class.TheVariants.{Printable}
use Rattle.scram_mech.specs.declared.verifiers.Verifier.{Verifier}
use Rattle.scram_mech.specs.Signs.{is_nonce}
use Rattle.scram_mech.specs.Base64.{encoded}
use Rattle.scram_mech.specs.Judging.{judged, same, is_extended, are_rounds, unframed}
use Rattle.scram_bindings.specs.Carried.{data_of, is_bound}
use Rattle.scram_mech.specs.FirstText.{First, first_of, first_text}
use Rattle.scram_mech.specs.SecondText.{Second, second_of, second_text}
use Rattle.scram_mech.specs.ThirdText.{Third, third_of, bare_text, with_proof}
use Rattle.scram_mech.specs.FinalText.{final_of, final_text}
use Rattle.scram_mech.specs.Secrets.{Secret, stored_key, server_key, auth_message, masked, proof_of, signature_of}
use Rattle.scram_mech.specs.MechMaking.{signature_making}
use Rattle.scram_mech.specs.Initiator.{InitModel, WaitModel, InitFinished, init_started, secret_of, bare_of, auth_of, wait_with, answer_with, init_answered, init_finished}
use Rattle.scram_mech.specs.Verifiers.{line_for, line_with}
use Rattle.scram_mech.specs.Acceptor.{AcceptModel, nonce_of, second_by, accept_with, auth_with, is_proof, finish_with, accept_started, accept_finished}
use Rattle.scram_mech.specs.Laws as laws
use Rattle.scram_mech.proofs.Sextets.{and_true}
use Rattle.scram_mech.proofs.Written.{first-read, second-read, third-read, final-read, encoded-nonce, length-encoded, all-append, judged-whole}
use Rattle.scram_mech.proofs.Frames.{unframed-framed, first-short}
use Rattle.scram_mech.proofs.Masks.{proof-gives, length-proof, proof-octets, signature-octets, length-signature, same-key}

same_self : (xs : List ℕ) → same xs xs ≡ true
same_self xs = same_tag xs xs refl

longer_by : (a b : ℕ) → a < b → nat_lt a b ≡ true
longer_by a b lt = grind (arith, nat_tests)

take_front : (xs ys : List ℕ) → take (length xs) (xs ++ ys) ≡ xs
take_front xs ys = grind (arith, common_steps)

extended : (own more : List ℕ) → 0 < length more → is_extended own (own ++ more) ≡ true
extended own more some =
    let longer : nat_lt (length own) (length (own ++ more)) ≡ true = longer_by (length own) (length (own ++ more)) (omega (arith, length-append own more)) in
    let front : take (length own) (own ++ more) ≡ own = take_front own more in
    rw (longer, front, same_self own) refl

low_rounds : (n : ℕ) → nat_le 4096 n ≡ true → 0 < n
low_rounds n e = grind (arith, nat_tests)

high_rounds : (n : ℕ) → nat_le n 200000 ≡ true → n < 10 ^ 10
high_rounds n e = grind (arith, nat_tests)

nonce-length : (draw : List ℕ) → length draw ≡ 18 → length (encoded draw) ≡ 24
nonce-length draw long = omega (arith, length-encoded draw)

-- ---- the steps

init-starts : (user password draw : List ℕ) (bindings : Option (List ℕ)) → judged Printable 255 user ≡ Ok tt → judged Printable 1024 password ≡ Ok tt
    → init_started user password draw bindings ≡ Ok (record { end = record { user = user; password = password; nonce = encoded draw; bindings = bindings }; token = framed.spell (oid_of Scram, first_text user (encoded draw)) })
unfolding init_started
init-starts user password draw bindings a b = rw (a, b) refl

accept-starts : (lines : List Verifier) (token text other : List ℕ) (first : First) (line : Verifier) → unframed token ≡ Ok text → first_of text ≡ Ok first → line_for lines first.name ≡ Some line
    → accept_started lines token other ≡ Ok (record { end = accept_with text first.nonce line (encoded other); token = second_by (accept_with text first.nonce line (encoded other)) })
unfolding accept_started
accept-starts lines token text other first line a b c = rw (a, b, c) refl

init-answers : (init : InitModel) (text : List ℕ) (second : Second) → second_of text ≡ Ok second → is_extended init.nonce second.nonce ≡ true → are_rounds second.rounds ≡ true
    → init_answered init text ≡ Ok (answer_with init (bare_of init second) (secret_of init second) (auth_of init text second))
unfolding init_answered
init-answers init text second a b c = rw (a, b, c) refl

accept-finishes : (accept : AcceptModel) (text : List ℕ) (theirs : Option (List ℕ)) (now : ℕ) (third : Third) → third_of text ≡ Ok third → same third.nonce (nonce_of accept) ≡ true → is_bound theirs third.binding ≡ true
    → is_proof accept.line.stored (auth_with accept third.bare) third.proof ≡ true → accept_finished accept text theirs now ≡ Ok (finish_with accept third now (auth_with accept third.bare))
unfolding accept_finished
accept-finishes accept text theirs now third a b c d = rw (a, b, c, d) refl

abbrev finished_as : WaitModel → InitFinished
finished_as wait = record {
  done = record { key = wait.key; subkey = false; initiator = wait.user; acceptor = []; hash = wait.hash; ends = greatest_moment; first = 0 };
  found = signature_making wait.server wait.auth ∷ [];
}

init-finishes : (wait : WaitModel) (text signature : List ℕ) → final_of text ≡ Ok signature → same (signature_of wait.server wait.auth) signature ≡ true → init_finished wait text ≡ Ok (finished_as wait)
unfolding init_finished
init-finishes wait text signature a b = rw (a, b) refl

proof-is : (secret : Secret) (auth : List ℕ) → is_proof (stored_key secret) auth (proof_of secret auth) ≡ true
unfolding stored_key
proof-is secret auth = same_tag (sha1 (masked (stored_key secret) auth (proof_of secret auth))) (stored_key secret) (ap sha1 (proof-gives secret auth))

-- ---- the pair

pub agrees : (user password draw other : List ℕ) (bindings theirs : Option (List ℕ)) (lines : List Verifier) (salt : List ℕ) (rounds now : ℕ) → laws.Honest user password draw other bindings lines salt rounds
    → is_bound theirs (data_of bindings) ≡ true → laws.Agrees user password draw other bindings theirs lines now
agrees user password draw other bindings theirs lines salt rounds now h bound =
    let secret : Secret = record { password = password; salt = salt; rounds = rounds } in
    let line : Verifier = line_with user secret in
    let own = encoded draw in
    let more = encoded other in
    let nonce = own ++ more in
    let own_long = nonce-length draw h.drawn in
    let more_long = nonce-length other h.other_drawn in
    let own_each = encoded-nonce draw h.draw_octets in
    let nonce_each = all-append is_nonce own more own_each (encoded-nonce other h.other_octets) in
    let long : length nonce ≡ 48 = omega (arith, length-append own more, own_long, more_long) in
    let first = first_text user own in
    let init : InitModel = record { user = user; password = password; nonce = own; bindings = bindings } in
    let accept : AcceptModel = accept_with first own line more in
    let second = second_text nonce salt rounds in
    let ranges = and_true (nat_le 4096 rounds) (nat_le rounds 200000) h.ranged in
    let second_read = second-read nonce salt rounds nonce_each (omega arith) (omega arith) h.salt_octets h.salted h.salt_few (low_rounds rounds ranges.0) (high_rounds rounds ranges.1) in
    let values : Second = record { nonce = nonce; salt = salt; rounds = rounds } in
    let bare = bare_text (data_of bindings) nonce in
    let auth = auth_message first second bare in
    let proof = proof_of secret auth in
    let third_read = third-read (data_of bindings) nonce proof h.data_octets h.data_few nonce_each (omega arith) (omega arith) (proof-octets secret auth) (length-proof secret auth) in
    let third : Third = record { binding = data_of bindings; nonce = nonce; proof = proof; bare = bare } in
    let signature = signature_of (server_key secret) auth in
    let final_read = final-read signature (signature-octets (server_key secret) auth) (length-signature (server_key secret) auth) in
    record {
      started = record { end = init; token = framed.spell (oid_of Scram, first) };
      taken = record { end = accept; token = second };
      proved = answer_with init bare secret auth;
      accepted = finish_with accept third now auth;
      finished = finished_as (wait_with init secret auth);
      starts = init-starts user password draw bindings (judged-whole Printable 255 user h.named h.some h.few) (judged-whole Printable 1024 password h.opened h.any h.most);
      takes =
          accept-starts lines (framed.spell (oid_of Scram, first)) first other (record { name = user; nonce = own }) line (unframed-framed first (first-short user own h.few (omega arith)))
          (first-read user own h.named h.some h.few own_each (omega arith) (omega arith)) h.line;
      proves = init-answers init second values second_read (extended own more (omega arith)) h.ranged;
      accepts = accept-finishes accept (with_proof bare proof) theirs now third third_read (same_self nonce) bound (proof-is secret auth);
      finishes = init-finishes (wait_with init secret auth) (final_text signature) signature final_read (same_self signature);
      key = same-key secret auth;
      initiator = refl;
      acceptor = refl;
      hash = ap hash_of (sym h.carries);
    }
