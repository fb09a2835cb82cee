-- An acceptor's MIC over an own list was made over the list that came, which is that list.
use Rattle.std.proofs.Common.{◌≡◌, ◌⊎◌, inl, inr, ℕ, ◌+◌, ◌*◌, ◌==◌, Bool, true, false, cond, is_ok, refl, sym, ap, ◌∙◌, arith, List, [], ◌∷◌, ◌++◌, map, length, take, Some, Result, Ok, Err, slice_get, length-append}
use Rattle.std.proofs.lemmas.List.{length-take-le}
use Rattle.krb_derive.specs.declared.key.Key.{Key}
use Rattle.krb_tokens.specs.declared.end.Side.TheVariants.{Initiator, Acceptor}
use Rattle.krb_tokens.specs.declared.end.TokenEnd.{TokenEnd}
use Rattle.krb_tokens.specs.declared.end.TokenRefusal.{TokenRefusal}
use Rattle.krb_tokens.specs.Mic.{mic_header, checked_mic}
use Rattle.krb_tokens.specs.Laws.{ShownByMic, Laws as TokenLaws}
use Rattle.krb_tokens.specs.Makings.{mic_making, wrap_making}
use Rattle.rpc_msgs.specs.Words.{word}
use Rattle.scram_mech.specs.Laws.{Laws as ScramLaws}
use Rattle.scram_mech.specs.MechMaking.{OfType, MechMaking, AmongMakings, typed}
use Rattle.spnego_msgs.specs.Lists.{list_octets}
use Rattle.spnego_core.specs.declared.outcome.Outcome.{Outcome}
use Rattle.spnego_core.specs.ListMic.{is_list_mic, mic_found}
use Rattle.spnego_core.specs.Outcome.{token_end}
use Rattle.accept_book.specs.RecordShown.{end_of}
use Rattle.world_laws.specs.State.{Context, World}
use Rattle.world_laws.specs.Premises.{IsWordMic, WasMade}
use Rattle.world_laws.proofs.Invariants.{MadeAcceptMic, MadeResult, Owning}
use Rattle.world_laws.proofs.Apart.{split-back, OfList, list-result, list-word}
use Rattle.world_laws.proofs.Kerberos.{same-type}
use Rattle.world_laws.proofs.Makers.{only, tag, MicOf, from-mic}
use Rattle.world_laws.proofs.OneList.{one-list}

-- ---- the header of a MIC that was taken

pub taken-ok : (r : Result (Unit {0}) TokenRefusal) → is_ok r ≡ true → r ≡ Ok tt
taken-ok (Ok tt) e = refl
taken-ok (Err refusal) e = absurd cc

pub shown-long : (end : TokenEnd) (mic octets : List ℕ) → ShownByMic end mic octets → length (take 16 mic) ≡ 16
shown-long end mic octets s =
    let size : length mic ≡ length (s.header ++ s.tag) = ap length s.spelled in
    length-take-le 16 mic (omega (arith, size, length-append s.header s.tag, s.long))

pub sixteen : (tokens : TokenLaws) (outcome : Outcome) (list : List (List ℕ)) (mic : List ℕ) → is_list_mic outcome Initiator list mic ≡ true → length (take 16 mic) ≡ 16
unfolding is_list_mic
sixteen tokens outcome list mic e =
    shown-long (token_end outcome Initiator) mic (list_octets list) (tokens.mic (token_end outcome Initiator) mic (list_octets list) (taken-ok (checked_mic (token_end outcome Initiator) mic (list_octets list)) e))

-- ---- what else an acceptor signs

-- the octets of a making are a list's and 16 more
pub record SaysList (m : MechMaking) (list : List (List ℕ)) (key : Key) : Type 0 where
  pub header : List ℕ
  pub long : length header ≡ 16
  pub octets : m.octets ≡ list_octets list ++ header
  pub key_is : m.key ≡ OfType key
  pub tag_is : tag m ≡ 92

pub saw-says : (tokens : TokenLaws) (outcome : Outcome) (list : List (List ℕ)) (mic : List ℕ) → is_list_mic outcome Initiator list mic ≡ true → SaysList (mic_found outcome Initiator list mic) list outcome.key
saw-says tokens outcome list mic e = record { header = take 16 mic; long = sixteen tokens outcome list mic e; octets = refl; key_is = refl; tag_is = refl }

no-word : {A : Type 0} (tokens : TokenLaws) (w : World) (m : MechMaking) (list : List (List ℕ)) (key : Key) → SaysList m list key → OfList (list_octets list) → IsWordMic w m → A
no-word tokens w m list key s o made =
    let octets : list_octets list ++ s.header ≡ made.word ++ mic_header (token_end made.context.fixed.outcome Acceptor) made.number = sym s.octets ∙ ap (λ (z : MechMaking). z.octets) made.is_mic in
    let parts = split-back (list_octets list) s.header made.word (mic_header (token_end made.context.fixed.outcome Acceptor) made.number)
    (s.long ∙ sym (tokens.long_mic (token_end made.context.fixed.outcome Acceptor) made.number)) octets in
    absurd (list-word (list_octets list) made.word o made.four parts.0)

result-mic : (b c : Bool) (key : Key) (subkey : Bool) (number : ℕ) (octets : List ℕ) (m : MechMaking) → tag m ≡ 92
    → AmongMakings (map typed (cond b (mic_making (record { key = key; side = Acceptor; subkey = subkey }) number octets ∷ []) (cond c (wrap_making (record { key = key; side = Acceptor; subkey = subkey }) number true octets ∷ []) []))) m
    → m.octets ≡ octets ++ mic_header (record { key = key; side = Acceptor; subkey = subkey }) number
result-mic true c key subkey number octets m t a = ap (λ (z : MechMaking). z.octets) (only m (typed (mic_making (record { key = key; side = Acceptor; subkey = subkey }) number octets)) a)
result-mic false true key subkey number octets m t a =
    let other : tag m ≡ 89 = ap tag (only m (typed (wrap_making (record { key = key; side = Acceptor; subkey = subkey }) number true octets)) a) in
    absurd (omega arith)
result-mic false false key subkey number octets m t a = absurd a

no-result : {A : Type 0} (tokens : TokenLaws) (x : Context) (m : MechMaking) (list : List (List ℕ)) (key : Key) → SaysList m list key → OfList (list_octets list) → MadeResult x m → A
no-result tokens x m list key s o made =
    let said : List ℕ = word made.seq ++ made.result in
    let end : TokenEnd = end_of made.lease in
    let is : m.octets ≡ said ++ mic_header end (2 * made.seq + 1) =
    result-mic (made.service == 2) (made.service == 3) made.lease.outcome.key made.lease.outcome.subkey (2 * made.seq + 1) (word made.seq ++ made.result) m s.tag_is made.made in
    let parts = split-back (list_octets list) s.header said (mic_header end (2 * made.seq + 1)) (s.long ∙ sym (tokens.long_mic end (2 * made.seq + 1))) (sym s.octets ∙ is) in
    absurd (list-result (list_octets list) made.result made.seq o made.apart parts.0)

-- ---- so the list came so

pub record CameSo (w : World) (list : List (List ℕ)) (key : Key) : Type 0 where
  pub place : ℕ
  pub context : Context
  pub there : slice_get w.fixed place ≡ Some context
  pub received : context.fixed.received ≡ list
  pub key_is : context.fixed.outcome.key ≡ key

list-came : (tokens : TokenLaws) (x : Context) (m : MechMaking) (list : List (List ℕ)) (key : Key) → SaysList m list key → OfList (list_octets list) → MadeAcceptMic x m → (x.fixed.received ≡ list) × (x.fixed.outcome.key ≡ key)
list-came tokens x m list key s o made =
    let octets : list_octets list ++ s.header ≡ list_octets x.fixed.received ++ mic_header (token_end x.fixed.outcome Acceptor) 0 = sym s.octets ∙ ap (λ (z : MechMaking). z.octets) made.made in
    let parts = split-back (list_octets list) s.header (list_octets x.fixed.received) (mic_header (token_end x.fixed.outcome Acceptor) 0) (s.long ∙ sym (tokens.long_mic (token_end x.fixed.outcome Acceptor) 0)) octets in
    (sym (one-list list x.fixed.received o.short parts.0), same-type x.fixed.outcome.key key (sym (ap (λ (z : MechMaking). z.key) made.made) ∙ s.key_is))

came-by : (tokens : TokenLaws) (w : World) (m : MechMaking) (list : List (List ℕ)) (key : Key) → SaysList m list key → OfList (list_octets list) → MicOf w m ⊎ IsWordMic w m → CameSo w list key
came-by tokens w m list key s o (inr made) = no-word tokens w m list key s o made
came-by tokens w m list key s o (inl mic) = by mic.made
  where
    by : MadeAcceptMic mic.context m ⊎ MadeResult mic.context m → CameSo w list key
    by (inl made) = let c = list-came tokens mic.context m list key s o made in record { place = mic.place; context = mic.context; there = mic.there; received = c.0; key_is = c.1 }
    by (inr made) = no-result tokens mic.context m list key s o made

pub came-so : (tokens : TokenLaws) (scram : ScramLaws) (w : World) (outcome : Outcome) (list : List (List ℕ)) (mic : List ℕ) → Owning w → OfList (list_octets list) → is_list_mic outcome Initiator list mic ≡ true → WasMade w (mic_found outcome Initiator list mic) → CameSo w list outcome.key
came-so tokens scram w outcome list mic owning o right made =
    came-by tokens w (mic_found outcome Initiator list mic) list outcome.key (saw-says tokens outcome list mic right) o (from-mic scram w (mic_found outcome Initiator list mic) owning made refl)
