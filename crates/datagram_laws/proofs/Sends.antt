-- What a session's calls send are records of a session.
use Rattle.std.proofs.Common.{◌≡◌, ℕ, suc, ◌+◌, ◌*◌, ◌<◌, ◌≤◌, ◌^◌, lit<, lit≤, List, [], ◌∷◌, ◌++◌, length, Ok, refl, sym, ap, ◌∙◌, subst, arith, append-nil, length-append, true}
use Rattle.std.specs.List.{AllByRecursion}
use Rattle.std.proofs.Math.Nat.{mod-eq_of_lt}
use Rattle.sec_base.specs.declared.draw.Draw as draws
use Rattle.datagram_post.specs.declared.post.Post as posts
use Rattle.rpc_msgs.specs.Auths.{IsAuth}
use Rattle.rpc_msgs.specs.Calls.{call_at, secure_call}
use Rattle.rpc_msgs.proofs.CallLaws.{secure-again}
use Rattle.rpcsec_msgs.specs.Cred.{is_service, cred_octets}
use Rattle.rpcsec_msgs.proofs.CredLaws.{cred-only}
use Rattle.rpcsec_bodies.specs.declared.service.Service.{Service}
use Rattle.rpcsec_bodies.specs.declared.service.Service.TheVariants as services
use Rattle.rpcsec_bodies.specs.Service.{number_of}
use Rattle.rpcsec_bodies.proofs.Lengths.{mic-size}
use Rattle.gss_client.specs.Again.{later}
use Rattle.gss_client.specs.Calling.{own_end, own_cred, header_of, verifier_of, signed_call, body_of, data_call}
use Rattle.gss_client.specs.Session.{SessionState, session_after, xid_after}
use Rattle.gss_client.proofs.CallLengths.{cred-fits}
use Rattle.datagram_client.specs.Calls.{sends}
use Rattle.again_laws.specs.Sending.{Sent, Sending}
use Rattle.datagram_laws.specs.Sessions.{Made, behind, sent_octets, next_of, times, sent_by, Says, EachSays, SendsLaw, IsMade, MadeLaw}

-- ---- numbers

-- each has at least this transaction number, and at least this number
abbrev AtLeast : ℕ → ℕ → List Sent → Type 0
AtLeast x m sent = AllByRecursion (λ (next : Sent). (x ≤ next.xid) × (m ≤ next.number)) sent

weaker : (x m n : ℕ) (sent : List Sent) → m < n → AtLeast x n sent → AllByRecursion (λ (next : Sent). (x ≤ next.xid) × (m < next.number)) sent
weaker x m n [] lt all = tt
weaker x m n (one ∷ sent) lt all = ((all.0.0, omega (arith, all.0.1, lt)), weaker x m n sent lt all.1)

joined : (x m : ℕ) (xs ys : List Sent) → AtLeast x m xs → AtLeast x m ys → AtLeast x m (xs ++ ys)
joined x m [] ys p q = q
joined x m (one ∷ xs) ys p q = (p.0, joined x m xs ys p.1 q)

times-least : (x m : ℕ) (s : SessionState) (n : ℕ) (confounders : List (List ℕ)) → x ≤ s.xid → m ≤ s.number + n → AtLeast x m (times s n confounders)
times-least x m s n [] le many = tt
times-least x m s n (confounder ∷ more) le many = ((le, many), times-least x m s (n + 1) more le (omega (arith, many)))

next-xid : (xid : ℕ) → xid + 1 < 2 ^ 32 → xid_after xid ≡ xid + 1
next-xid xid few = mod-eq_of_lt few

by-least : (x m : ℕ) (s : SessionState) (calls : List Made) → s.xid + length calls < 2 ^ 32 → x ≤ s.xid → m ≤ s.number → AtLeast x m (sent_by s calls)
by-least x m s [] few le many = tt
by-least x m s (call ∷ calls) few le many =
    let e : xid_after s.xid ≡ s.xid + 1 = next-xid s.xid (omega (arith, few)) in
    joined x m (times s 0 (call.first ∷ call.again)) (sent_by (behind s call) calls)
    (times-least x m s 0 (call.first ∷ call.again) le (omega (arith, many)))
    (by-least x m (behind s call) calls (omega (arith, few, e)) (omega (arith, le, e)) (omega (arith, many)))

times-sending : (s : SessionState) (n : ℕ) (confounders : List (List ℕ)) (rest : List Sent) → AtLeast s.xid (s.number + n + length confounders) rest → Sending rest → Sending (times s n confounders ++ rest)
times-sending s n [] rest least sending = sending
times-sending s n (confounder ∷ more) rest least sending =
    let same : s.number + (n + 1) + length more ≡ s.number + n + length (confounder ∷ more) = omega arith in
    let behind-it : AtLeast s.xid (s.number + (n + 1) + length more) rest = subst (λ (m : ℕ). AtLeast s.xid m rest) (sym same) least in (
      ahead s.xid (s.number + n) (s.number + n + 1) (times s (n + 1) more) rest (omega arith) (times-least s.xid (s.number + n + 1) s (n + 1) more (omega arith) (omega arith)) (lower s.xid (s.number + n + 1) (s.number + (n + 1) + length more) rest (omega arith) behind-it),
      times-sending s (n + 1) more rest behind-it sending,
    )
  where
    lower : (x m n : ℕ) (sent : List Sent) → m ≤ n → AtLeast x n sent → AtLeast x m sent
    lower x m n [] le all = tt
    lower x m n (one ∷ sent) le all = ((all.0.0, omega (arith, all.0.1, le)), lower x m n sent le all.1)

    ahead : (x m n : ℕ) (xs ys : List Sent) → m < n → AtLeast x n xs → AtLeast x n ys → AllByRecursion (λ (next : Sent). (x ≤ next.xid) × (m < next.number)) (xs ++ ys)
    ahead x m n xs ys lt p q = weaker x m n (xs ++ ys) lt (joined x n xs ys p q)

by-sending : (s : SessionState) (calls : List Made) → s.xid + length calls < 2 ^ 32 → Sending (sent_by s calls)
by-sending s [] few = tt
by-sending s (call ∷ calls) few =
    let e : xid_after s.xid ≡ s.xid + 1 = next-xid s.xid (omega (arith, few)) in
    times-sending s 0 (call.first ∷ call.again) (sent_by (behind s call) calls)
    (by-least s.xid (s.number + 0 + length (call.first ∷ call.again)) (behind s call) calls (omega (arith, few, e)) (omega (arith, e)) (omega arith))
    (by-sending (behind s call) calls (omega (arith, few, e)))

-- ---- octets

served : (service : Service) → is_service 0 (number_of service) ≡ true
served services.None = refl
served services.Integrity = refl
served services.Privacy = refl

few-services : (service : Service) → number_of service < 2 ^ 32
few-services services.None = lit< tt
few-services services.Integrity = lit< tt
few-services services.Privacy = lit< tt

is-auth : (s : SessionState) (procedure : ℕ) → IsAuth (verifier_of s 0 (number_of s.terms.service) procedure)
unfolding verifier_of
is-auth s procedure = record { flavour = lit< tt; body = omega (arith, mic-size (own_end s) (2 * s.number) (header_of s 0 (number_of s.terms.service) procedure)) }

one-read : (s : SessionState) (procedure : ℕ) (args confounder : List ℕ) → s.terms.program < 2 ^ 32 → s.terms.version < 2 ^ 32 → length s.handle ≤ 64 → s.xid < 2 ^ 32 → procedure < 2 ^ 32
    → call_at (data_call s procedure args confounder) ≡ Ok (secure_call s.xid s.terms.program s.terms.version procedure (cred_octets (own_cred s 0 (number_of s.terms.service))) (verifier_of s 0 (number_of s.terms.service) procedure) (body_of s args confounder s.terms.service))
unfolding data_call signed_call
one-read s procedure args confounder program version handle xid few =
    secure-again s.xid s.terms.program s.terms.version procedure (cred_octets (own_cred s 0 (number_of s.terms.service))) (verifier_of s 0 (number_of s.terms.service) procedure) (body_of s args confounder s.terms.service) (data_call s procedure args confounder)
    xid program version few (cred-fits (own_cred s 0 (number_of s.terms.service)) handle) (is-auth s procedure) refl

one-says : (s : SessionState) (procedure : ℕ) (args confounder : List ℕ) → s.terms.program < 2 ^ 32 → s.terms.version < 2 ^ 32 → length s.handle ≤ 64 → s.xid < 2 ^ 32 → s.number < 2 ^ 32 → procedure < 2 ^ 32 → Says (data_call s procedure args confounder) (next_of s)
one-says s procedure args confounder program version handle xid number few = record {
  call = secure_call s.xid s.terms.program s.terms.version procedure (cred_octets (own_cred s 0 (number_of s.terms.service))) (verifier_of s 0 (number_of s.terms.service) procedure) (body_of s args confounder s.terms.service);
  cred = own_cred s 0 (number_of s.terms.service);
  read = one-read s procedure args confounder program version handle xid few;
  xid = refl;
  inside = cred-only (own_cred s 0 (number_of s.terms.service)) (record { proc = lit≤ tt; seq = number; service = few-services s.terms.service; served = served s.terms.service; context = omega (arith, handle) });
  number = refl;
}

times-say : (s : SessionState) (procedure : ℕ) (args : List ℕ) (n : ℕ) (confounders more : List (List ℕ)) (rest : List Sent) → s.terms.program < 2 ^ 32 → s.terms.version < 2 ^ 32 → length s.handle ≤ 64 → s.xid < 2 ^ 32 → s.number + n + length confounders ≤ 0x80000000 → procedure < 2 ^ 32
    → EachSays more rest → EachSays (sends s procedure args n confounders ++ more) (times s n confounders ++ rest)
times-say s procedure args n [] more rest program version handle xid number few says = says
times-say s procedure args n (confounder ∷ confounders) more rest program version handle xid number few says =
    (one-says (later n s) procedure args confounder program version handle xid (omega (arith, number)) few, times-say s procedure args (n + 1) confounders more rest program version handle xid (omega (arith, number)) few says)

length-times : (s : SessionState) (n : ℕ) (confounders : List (List ℕ)) → length (times s n confounders) ≡ length confounders
length-times s n [] = refl
length-times s n (confounder ∷ more) = ap suc (length-times s (n + 1) more)

by-say : (s : SessionState) (calls : List Made) → s.terms.program < 2 ^ 32 → s.terms.version < 2 ^ 32 → length s.handle ≤ 64 → s.xid + length calls < 2 ^ 32 → s.number + length (sent_by s calls) ≤ 0x80000000 → AllByRecursion (λ (call : Made). call.procedure < 2 ^ 32) calls
    → EachSays (sent_octets s calls) (sent_by s calls)
by-say s [] program version handle xids numbers procedures = tt
by-say s (call ∷ calls) program version handle xids numbers procedures =
    let e : xid_after s.xid ≡ s.xid + 1 = next-xid s.xid (omega (arith, xids)) in
    let rest : List Sent = sent_by (behind s call) calls in
    let size : length (sent_by s (call ∷ calls)) ≡ length (call.first ∷ call.again) + length rest = length-append (times s 0 (call.first ∷ call.again)) rest ∙ ap (λ (n : ℕ). n + length rest) (length-times s 0 (call.first ∷ call.again)) in
    times-say s call.procedure call.args 0 (call.first ∷ call.again) (sent_octets (behind s call) calls) rest program version handle (omega (arith, xids)) (omega (arith, numbers, size)) procedures.0
    (by-say (behind s call) calls program version handle (omega (arith, xids, e)) (omega (arith, numbers, size)) procedures.1)

pub sends-law : SendsLaw
sends-law s calls made = record { sending = by-sending s calls made.xids; says = by-say s calls made.program made.version made.handle made.xids made.numbers made.procedures }

-- ---- a call that was answered

made-of : {P : Type 0} (post : posts.Ghosts P) (s next : SessionState) (procedure : ℕ) (args : List ℕ) (old new : P) (confounders : List (List ℕ)) (count : ℕ)
    → length confounders ≡ count + 1 → post.sent new ≡ post.sent old ++ sends s procedure args 0 confounders → next ≡ session_after (later count s) → IsMade post s next procedure args old new
made-of post s next procedure args old new [] count many sent left = absurd (omega (arith, many))
made-of post s next procedure args old new (first ∷ again) count many sent left =
    let same : count ≡ length again = omega (arith, many) in
    record {
      call = record { procedure = procedure; args = args; first = first; again = again };
      same_procedure = refl;
      same_args = refl;
      sent = sent ∙ ap (λ l. post.sent old ++ l) (sym (append-nil (sends s procedure args 0 (first ∷ again))));
      left = left ∙ ap (λ (n : ℕ). session_after (later n s)) same;
    }

pub made-law : {P D : Type 0} (post : posts.Ghosts P) (draw : draws.Ghosts D) → MadeLaw post draw
made-law {P} {D} post draw s procedure args tries old new draw_old draw_new answer called =
    let d = called.0 in
    made-of post s answer.0 procedure args old new d.confounders _ d.count d.course.sent called.1
