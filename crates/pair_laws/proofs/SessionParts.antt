-- The parts of a session's run: how long its calls and results are, how many calls it makes, and what is written first.
use Rattle.std.proofs.Common.{◌≡◌, ℕ, zero, suc, ◌+◌, ◌*◌, ◌<◌, ◌≤◌, ◌^◌, ◌/◌, Bool, true, false, refl, ap, sym, subst, ◌∙◌, arith, nat_le, List, [], ◌∷◌, ◌++◌, length, replicate, Option, Result, Ok, Err, append_assoc}
use Rattle.std.specs.Prelude.{◌==◌}
use Rattle.std.specs.Int.{byte_at, bytes_high_first}
use Rattle.std.specs.List.{flat_map}
use Rattle.std.proofs.lemmas.Bool.Decides.{nat_tests}
use Rattle.std.proofs.lemmas.List.{append-nil}
use Rattle.std.proofs.lemmas.Nat.{mod_below}
use Rattle.aes_cts.proofs.Restored.{append-IsOctets, replicate-IsOctets}
use Rattle.krb_tokens.proofs.Octets.{octets_nil, octets_cons}
use Rattle.rpc_msgs.specs.Words.{word, opaque, padding_length}
use Rattle.rpc_msgs.specs.Records.{last_fragment}
use Rattle.rpcsec_msgs.specs.Cred.{CredValue, cred_octets}
use Rattle.seq_window.specs.Marks.{greatest}
use Rattle.context_table.specs.declared.slot.Slot.{Slot}
use Rattle.context_table.specs.Places.{HasValue}
use Rattle.spnego_core.specs.declared.accept_end.AcceptEnd.{AcceptEnd}
use Rattle.spnego_core.specs.declared.outcome.Outcome.{Outcome}
use Rattle.accept_book.specs.Booking.{BookOf}
use Rattle.accept_core.specs.History.{numbers}
use Rattle.accept_book.specs.Honest.{IsOctets}
use Rattle.accept_core.specs.Replays.{Accepting}
use Rattle.accept_book.specs.declared.book_answer.Lease.{Lease}
use Rattle.gss_client.specs.declared.conversation.Parting.TheVariants.{Finished, Spent}
use Rattle.gss_client.specs.declared.refusal.ClientRefusal.{ClientRefusal}
use Rattle.rpcsec_bodies.specs.declared.service.Service.{Service}
use Rattle.rpcsec_bodies.specs.Service.{number_of}
use Rattle.gss_client.specs.Calling.{own_end, header_of, verifier_of, signed_call, body_of, data_call, destroy_call}
use Rattle.gss_client.specs.Conversation.{Conversed, goes_on}
use Rattle.gss_client.specs.Judging.{result_taken, destroyed_in}
use Rattle.gss_client.specs.Query.{QuerySays}
use Rattle.gss_client.specs.declared.terms.Terms.{Terms}
use Rattle.gss_client.specs.Session.{SessionState}
use Rattle.gss_client.specs.Talk.{calls, destroys}
use Rattle.gss_client.specs.Talking.{judges, exchanges}
use Rattle.gss_client.proofs.CallLengths.{cred-fits, call-fits}
use Rattle.rpcsec_bodies.proofs.Lengths.{mic-size, protected-fits}
use Rattle.krb_tokens.specs.Mic.{mic_of}
use Rattle.pair_laws.specs.HonestCalls.{session_on}
use Rattle.pair_laws.specs.Live.{IsWhole, IsLiveAt}
use Rattle.pair_laws.specs.Running.{Turn, sent_in, IsUntouched, calls_made, parting_of}
use Rattle.pair_laws.proofs.Answered.{handle-length}
use Rattle.pair_laws.proofs.Completing.{framed-some, same-record, octets_heard, same-behind}
use Rattle.pair_laws.proofs.Creating.{goes-front, exchange-front}

-- ---- octets

byte-small : (k n : ℕ) → byte_at k n < 256
byte-small zero n = mod_below n 256 (omega arith)
byte-small (suc k) n = mod_below (n / 256 ^ suc k) 256 (omega arith)

bytes-octets : (k n : ℕ) → IsOctets (bytes_high_first k n)
bytes-octets zero n = octets_nil
bytes-octets (suc k) n = octets_cons (byte_at k n) (bytes_high_first k n) (byte-small k n) (bytes-octets k n)

pub word-octets : (n : ℕ) → IsOctets (word n)
unfolding word
word-octets n = bytes-octets 4 n

pub opaque-octets : (xs : List ℕ) → IsOctets xs → IsOctets (opaque xs)
unfolding opaque
opaque-octets xs h =
    append-IsOctets (word (length xs)) (xs ++ replicate (padding_length (length xs)) 0) (word-octets (length xs)) (append-IsOctets xs (replicate (padding_length (length xs)) 0) h (replicate-IsOctets (padding_length (length xs))))

-- ---- how many calls

pub below-spent : (n : ℕ) → n ≤ 0x80000000 → (n == 0x80000000) ≡ false → n < 0x80000000
below-spent n h e = grind (arith, nat_tests)

pub is-spent : (n : ℕ) → (n == 0x80000000) ≡ true → n ≡ 0x80000000
is-spent n e = grind (arith, nat_tests)

pub none-made : (n : ℕ) → n ≤ 0x80000000 → zero ≡ calls_made n zero
none-made n h = let fits : nat_le (n + zero) 0x80000000 ≡ true = grind (arith, nat_tests) in rw fits refl

pub none-due : (n : ℕ) → n ≤ 0x80000000 → Finished ≡ parting_of n zero
none-due n h = let fits : nat_le (n + zero) 0x80000000 ≡ true = grind (arith, nat_tests) in rw fits refl

pub spent-made : (n left : ℕ) → n ≡ 0x80000000 → zero ≡ calls_made n (suc left)
spent-made n left h = let over : nat_le (n + suc left) 0x80000000 ≡ false = grind (arith, nat_tests) in rw over (omega (arith, h))

pub spent-due : (n left : ℕ) → n ≡ 0x80000000 → Spent ≡ parting_of n (suc left)
spent-due n left h = let over : nat_le (n + suc left) 0x80000000 ≡ false = grind (arith, nat_tests) in rw over refl

pub more-made : (n left : ℕ) → n < 0x80000000 → suc (calls_made (n + 1) left) ≡ calls_made n (suc left)
more-made n left h = by-cases (nat_le (n + suc left) 0x80000000) refl
  where
    by-cases : (fits : Bool) → nat_le (n + suc left) 0x80000000 ≡ fits → suc (calls_made (n + 1) left) ≡ calls_made n (suc left)
    by-cases true e = let f : nat_le ((n + 1) + left) 0x80000000 ≡ true = grind (arith, nat_tests) in rw (e, f) refl
    by-cases false e = let f : nat_le ((n + 1) + left) 0x80000000 ≡ false = grind (arith, nat_tests) in rw (e, f) (omega (arith, h))

pub more-due : (n left : ℕ) → n < 0x80000000 → parting_of (n + 1) left ≡ parting_of n (suc left)
more-due n left h = by-cases (nat_le (n + suc left) 0x80000000) refl
  where
    by-cases : (fits : Bool) → nat_le (n + suc left) 0x80000000 ≡ fits → parting_of (n + 1) left ≡ parting_of n (suc left)
    by-cases true e = let f : nat_le ((n + 1) + left) 0x80000000 ≡ true = grind (arith, nat_tests) in rw (e, f) refl
    by-cases false e = let f : nat_le ((n + 1) + left) 0x80000000 ≡ false = grind (arith, nat_tests) in rw (e, f) refl

-- no more calls are made than are due
pub few-made : (first times : ℕ) → calls_made first times ≤ times
few-made first times = by-cases (nat_le (first + times) 0x80000000) refl
  where
    by-cases : (fits : Bool) → nat_le (first + times) 0x80000000 ≡ fits → calls_made first times ≤ times
    by-cases true e = rw e (omega arith)
    by-cases false e = let over : 0x80000000 ≤ first + times = grind (arith, nat_tests) in rw e (omega (arith, over))

-- ---- how long a call is

body-call : (s : SessionState) (args confounder : List ℕ) (service : Service) → length args ≤ 65540 → length confounder ≡ 16 → length (body_of s args confounder service) ≤ 130000
body-call s args confounder service few block = protected-fits (own_end s) service s.number confounder args few block

pub data-size : (s : SessionState) (procedure : ℕ) (args confounder : List ℕ) → length s.handle ≤ 64 → length args ≤ 65540 → length confounder ≡ 16 → length (data_call s procedure args confounder) ≤ 131072
unfolding data_call signed_call verifier_of header_of
data-size s procedure args confounder handle few block =
    let cred : CredValue = record { proc = 0; seq = s.number; service = number_of s.terms.service; context = s.handle } in
    let front : List ℕ = header_of s 0 (number_of s.terms.service) procedure in
    call-fits s.xid s.terms.program s.terms.version procedure (cred_octets cred) (record { flavour = 6; body = mic_of (own_end s) (2 * s.number) front }) (body_of s args confounder s.terms.service) (cred-fits cred handle) (omega (arith, mic-size (own_end s) (2 * s.number) front))
    (body-call s args confounder s.terms.service few block)

pub data-fits : (lease : Lease) (terms : Terms) (number xid procedure : ℕ) (args confounder : List ℕ) → length args ≤ 65540 → length confounder ≡ 16 → length (data_call (session_on lease terms number xid) procedure args confounder) ≤ 131072
data-fits lease terms number xid procedure args confounder few block = data-size (session_on lease terms number xid) procedure args confounder (omega (arith, handle-length lease.id)) few block

-- ---- what is written first

pub record Begins (front written : List ℕ) : Type 0 where
  pub more : List ℕ
  pub same : written ≡ front ++ more

pub calls-first : (s : SessionState) (procedure : ℕ) (args confounder stream : List ℕ) → Begins (last_fragment (data_call s procedure args confounder)) (calls s procedure args confounder stream).written
unfolding calls
calls-first s procedure args confounder stream =
    let call : List ℕ = data_call s procedure args confounder in
    let f = exchange-front call stream in
    let g = goes-front (last_fragment call) (exchanges call stream).written (exchanges call stream).rest (λ octets. judges (result_taken s octets)) (exchanges call stream).answer f.more f.same in
    record { more = g.more; same = g.same }

pub destroys-first : (s : SessionState) (stream : List ℕ) → Begins (last_fragment (destroy_call s)) (destroys s stream).written
unfolding destroys
destroys-first s stream =
    let call : List ℕ = destroy_call s in
    let f = exchange-front call stream in
    let g = goes-front (last_fragment call) (exchanges call stream).written (exchanges call stream).rest (λ octets. judges (destroyed_in s.outcome s.terms.service s.number s.xid octets)) (exchanges call stream).answer f.more f.same in
    record { more = g.more; same = g.same }

pub on-first : (query : QuerySays) (front written undrawn rest : List ℕ) (next : SessionState → List ℕ → List ℕ → Conversed) (answer : Result (SessionState × List ℕ) ClientRefusal) → Begins front written → Begins front (goes_on query written undrawn rest next answer).written
on-first query front written undrawn rest next (Err refusal) b = record { more = b.more; same = b.same }
on-first query front written undrawn rest next (Ok called) b = by-cases (query.is_result called.1) refl
  where
    by-cases : (fits : Bool) → query.is_result called.1 ≡ fits → Begins front (goes_on query written undrawn rest next (Ok called)).written
    by-cases true e =
        rw e (record { more = b.more ++ (next called.0 undrawn rest).written; same = ap (λ (zs : List ℕ). zs ++ (next called.0 undrawn rest).written) b.same ∙ append_assoc front b.more (next called.0 undrawn rest).written })
    by-cases false e = rw e (record { more = b.more; same = b.same })

-- the first record is the call
pub first-is : (octets call written more tail : List ℕ) → length octets ≤ 131072 → length call ≤ 131072 → written ≡ last_fragment octets ++ tail → written ≡ last_fragment call ++ more → octets ≡ call
first-is octets call written more tail h k e f = ap octets_heard (same-record octets call tail more h k (sym e ∙ f))

pub none-left : (call : List ℕ) (turns : List Turn) → last_fragment call ≡ last_fragment call ++ flat_map sent_in turns → turns ≡ []
none-left call [] e = refl
none-left call (turn ∷ turns) e = absurd (framed-some turn.octets (flat_map sent_in turns) (sym (same-behind (last_fragment call) [] (flat_map sent_in (turn ∷ turns)) (append-nil (last_fragment call) ∙ e))))

pub live-before : (core : Accepting AcceptEnd Outcome) (before : BookOf) (lease : Lease) (number : ℕ) → IsWhole core lease → greatest (numbers lease.id core.history) < number → IsUntouched lease.id core before.core → 0 < before.core.width → IsLiveAt before lease number
live-before core before lease number w few u wide = record {
  whole = record { stands = u.stands ∙ w.stands; value = subst (λ (s : Option (Slot AcceptEnd Outcome)). HasValue s lease.outcome lease.ends) (sym u.slot) w.value };
  called = subst (λ (ns : List ℕ). greatest ns < number) (sym u.called) few;
  wide = wide;
}
