-- Each event leaves what was read a front of what was sent.
use Rattle.std.proofs.Common.{◌≡◌, ◌⊎◌, inl, inr, ℕ, suc, zero, ◌+◌, ◌-◌, ◌<◌, ◌^◌, ◌∙◌, Bool, true, false, refl, sym, ap, subst, arith, List, [], ◌∷◌, ◌++◌, length, slice_get}
use Rattle.std.specs.Prelude.{Some, None, Result, Ok, Err, nat_lt, ◌==◌, not, if◌then◌else◌}
use Rattle.std.proofs.lemmas.Bool.{ltb-false, eqb-true}
use Rattle.std.proofs.lemmas.List.{length-append, append_assoc}
use Rattle.krb_derive.specs.Making.{Making, Among}
use Rattle.krb_tokens.specs.declared.end.TokenEnd.{TokenEnd}
use Rattle.krb_tokens.specs.declared.end.TokenRefusal.{TokenRefusal}
use Rattle.krb_tokens.specs.declared.end.Side.{Side}
use Rattle.krb_tokens.specs.declared.end.Side.TheVariants.{Initiator, Acceptor}
use Rattle.krb_tokens.specs.declared.wrap.Unwrapped.{Unwrapped}
use Rattle.krb_tokens.specs.End.{other_side, seal_usage, facing}
use Rattle.krb_tokens.specs.Wrap.{unwrapped}
use Rattle.krb_tokens.specs.Makings.{wrap_making, unwrapping}
use Rattle.krb_tokens.proofs.Taken.{other-other}
use Rattle.sasl_layer.specs.declared.layer.Layer.{Layer}
use Rattle.sasl_layer.specs.State.{LayerState}
use Rattle.sasl_layer.specs.declared.refusal.SaslRefusal.{SaslRefusal}
use Rattle.sasl_layer.specs.declared.refusal.SaslRefusal.TheVariants.{Layers, Order, TooLong}
use Rattle.sasl_layer.specs.Layers.{number_in}
use Rattle.sasl_layer.specs.Layered.{end_under, is_spent, sends, is_as, opened_in, taken_under, receives}
use Rattle.sasl_layer.specs.Lines.{IsFront, Line, IsBefore, IsSaid, AreItsOwn, WereMade}
use Rattle.sasl_layer.specs.Runs.{Two, Event, ToLeft, ToRight, SendLeft, SendRight, making_by, found_by, read_finds, left_sends, right_sends, left_reads, right_reads, after, finds, layer_of, left_line, right_line, Stands, FrontLaw}
use Rattle.sasl_layer.proofs.Lines.{next_law}

-- ---- what a message that was taken was

record Opened (end : TokenEnd) (sealed : Bool) (due : ℕ) (message octets : List ℕ) : Type 0 where
  taken : unwrapped end message ≡ Ok (record { sealed = sealed; content = octets })
  number : number_in message ≡ due

ok-is : (x y : List ℕ) (r : Result (List ℕ) SaslRefusal) → r ≡ Ok x → r ≡ Ok y → x ≡ y
ok-is x y r e f = cc

not-true : (b : Bool) → not b ≡ true → b ≡ false
not-true true e = absurd (cc)
not-true false e = refl

opened-tests : (due : Bool) (number : ℕ) (message octets : List ℕ) (held : Unwrapped) (sealing number_is : Bool)
    → (if not sealing then Err Layers else if not number_is then Err (Order number) else Ok held.content) ≡ Ok octets
    → (sealing ≡ true) × (number_is ≡ true) × (held.content ≡ octets)
opened-tests due number message octets held false number_is e = absurd (cc)
opened-tests due number message octets held true false e = absurd (cc)
opened-tests due number message octets held true true e = (refl, refl, cc)

held-is : (held : Unwrapped) (due : Bool) (octets : List ℕ) → held.sealed ≡ due → held.content ≡ octets → held ≡ record { sealed = due; content = octets }
held-is held due octets s c = rw (← s, ← c) refl

as-due : (due : Bool) (held : Unwrapped) (octets : List ℕ) → is_as due held.sealed ≡ true → held.content ≡ octets → held ≡ record { sealed = due; content = octets }
as-due true held octets s c = held-is held true octets s c
as-due false held octets s c = held-is held false octets (not-true held.sealed s) c

opened-of : (end : TokenEnd) (sealed : Bool) (due : ℕ) (message octets : List ℕ) (answer : Result Unwrapped TokenRefusal) → answer ≡ unwrapped end message
    → opened_in sealed due message answer ≡ Ok octets → Opened end sealed due message octets
opened-of end sealed due message octets (Err refusal) is e = absurd (cc)
opened-of end sealed due message octets (Ok held) is e =
    let t = opened-tests sealed due message octets held (is_as sealed held.sealed) (number_in message == due) e in
    record {
      taken = sym is ∙ ap (λ (v : Unwrapped). Ok v) (as-due sealed held octets t.0 t.2);
      number = eqb-true (number_in message) due t.1;
    }

-- under a layer
under : (sealed : Bool) (l : LayerState) (message octets : List ℕ) → taken_under (layer_of sealed) l message ≡ Ok octets
    → Opened (end_under l) sealed l.takes message octets
under true l message octets e = opened-of (end_under l) true l.takes message octets (unwrapped (end_under l) message) refl e
under false l message octets e = opened-of (end_under l) false l.takes message octets (unwrapped (end_under l) message) refl e

received-tests : (long : Bool) (rest : Result (List ℕ) SaslRefusal) (octets : List ℕ) → (if long then Err TooLong else rest) ≡ Ok octets → rest ≡ Ok octets
received-tests true rest octets e = absurd (cc)
received-tests false rest octets e = e

received-of : (sealed : Bool) (l : LayerState) (message octets : List ℕ) → l.facts.layer ≡ layer_of sealed → receives l message ≡ Ok octets
    → Opened (end_under l) sealed l.takes message octets
unfolding receives
received-of sealed l message octets layer e =
    under sealed l message octets (subst (λ (k : Layer). taken_under k l message ≡ Ok octets) layer (received-tests (nat_lt l.facts.incoming (length message)) (taken_under l.facts.layer l message) octets e))

found-is : (sealed : Bool) (l : LayerState) (message : List ℕ) → l.facts.layer ≡ layer_of sealed → found_by l.facts.layer l message ≡ (unwrapping (end_under l) message).found
found-is true l message layer = rw layer refl
found-is false l message layer = rw layer refl

-- ---- one direction, when a message is read

were-made : (sealed : Bool) (l : LayerState) (end : TokenEnd) (message octets : List ℕ) (makings : List Making) (answer : Result (List ℕ) SaslRefusal) → answer ≡ Ok octets
    → l.facts.layer ≡ layer_of sealed → end_under l ≡ end
    → ((making : Making) → Among (read_finds l message answer) making → Among makings making) → WereMade end message makings
were-made sealed l end message octets makings answer is layer same made =
    subst (λ (e : TokenEnd). WereMade e message makings) same
    (subst (λ (ms : List Making). (making : Making) → Among ms making → Among makings making) (ap (read_finds l message) is ∙ found-is sealed l message layer) made)

reads : (sealed : Bool) (line : Line) (read : List (List ℕ)) (l : LayerState) (message octets : List ℕ) (makings : List Making) → line.sealed ≡ sealed → AreItsOwn line makings → IsFront read line.said
    → l.facts.layer ≡ layer_of sealed → end_under l ≡ facing line.sender → l.takes ≡ length read + 1 → receives l message ≡ Ok octets
    → ((making : Making) → Among (read_finds l message (receives l message)) making → Among makings making)
    → IsFront (read ++ octets ∷ []) line.said
reads sealed line read l message octets makings same own front layer faces takes e made =
    let o : Opened (end_under l) sealed l.takes message octets = received-of sealed l message octets layer e in
    let taken : unwrapped (facing line.sender) message ≡ Ok (record { sealed = line.sealed; content = octets }) = rw (← faces, same) o.taken in
    next_law line read makings message octets own front taken (o.number ∙ takes) (were-made sealed l (facing line.sender) message octets makings (receives l message) e layer faces made)

-- ---- one direction, when a message is sent

get-older : {A : Type 0} (xs : List A) (y z : A) (i : ℕ) → slice_get xs i ≡ Some y → slice_get (xs ++ z ∷ []) i ≡ Some y
get-older [] y z i e = let q : None ≡ Some y = e in absurd (cc)
get-older (x ∷ xs) y z zero e = e
get-older (x ∷ xs) y z (suc i) e = get-older xs y z i e

get-newest : {A : Type 0} (xs : List A) (z : A) → slice_get (xs ++ z ∷ []) (length xs) ≡ Some z
get-newest [] z = refl
get-newest (x ∷ xs) z = get-newest xs z

abbrev said-more : Line → List ℕ → Line
said-more line octets = record line { said = line.said ++ octets ∷ [] }

older : (line : Line) (octets : List ℕ) (making : Making) → IsBefore line making ⊎ IsSaid line making → IsBefore (said-more line octets) making ⊎ IsSaid (said-more line octets) making
older line octets making (inl b) = inl (record { octets = b.octets; is = b.is })
older line octets making (inr s) = inr (record { place = s.place; octets = s.octets; there = get-older line.said s.octets octets s.place s.there; small = s.small; is = s.is })

own-sends : (line : Line) (octets : List ℕ) (makings : List Making) (number : ℕ) → AreItsOwn line makings → number ≡ length line.said + 1 → number < 2 ^ 64
    → AreItsOwn (said-more line octets) (wrap_making line.sender number line.sealed octets ∷ makings)
own-sends line octets makings number own is small making (inl same) key usage =
    inr (record { place = length line.said; octets = octets; there = get-newest line.said octets; small = rw (← is) small; is = same ∙ ap (λ (n : ℕ). wrap_making line.sender n line.sealed octets) is })
own-sends line octets makings number own is small making (inr among) key usage = older line octets making (own making among key usage)

front-more : {A : Type 0} (read said : List A) (x : A) → IsFront read said → IsFront read (said ++ x ∷ [])
front-more read said x f = record { rest = f.rest ++ x ∷ []; is = rw f.is (append_assoc read f.rest (x ∷ [])) }

-- the other end's makings have another usage
other-usage : (side : Side) → seal_usage (other_side side) ≡ seal_usage side → ⊥
other-usage Initiator e = let z : 22 ≡ 24 = e in absurd (omega (arith, z))
other-usage Acceptor e = let z : 24 ≡ 22 = e in absurd (omega (arith, z))

wrap-usage : (end : TokenEnd) (number : ℕ) (sealed : Bool) (octets : List ℕ) → (wrap_making end number sealed octets).usage ≡ seal_usage end.side
wrap-usage end number true octets = refl
wrap-usage end number false octets = refl

own-hears : (line : Line) (maker : TokenEnd) (octets : List ℕ) (makings : List Making) (number : ℕ) (sealed : Bool) → AreItsOwn line makings → maker.side ≡ other_side line.sender.side
    → AreItsOwn line (wrap_making maker number sealed octets ∷ makings)
own-hears line maker octets makings number sealed own side making (inl same) key usage =
    absurd (other-usage line.sender.side (ap seal_usage (sym side) ∙ sym (wrap-usage maker number sealed octets) ∙ ap (λ (m : Making). m.usage) (sym same) ∙ usage))
own-hears line maker octets makings number sealed own side making (inr among) key usage = own making among key usage

-- ---- an event

pub same-end : (b : TokenEnd) → b ≡ facing (facing b)
same-end b = ap (λ (s : Side). record b { side = s }) (sym (other-other b.side))

pub facing-back : (a b : TokenEnd) → a ≡ facing b → b ≡ facing a
facing-back a b e = rw e (same-end b)

side-of : (a b : TokenEnd) → a ≡ facing b → a.side ≡ other_side b.side
side-of a b e = ap (λ (t : TokenEnd). t.side) e

longer : (xs : List (List ℕ)) (x : List ℕ) (n : ℕ) → n ≡ length xs + 1 → n + 1 ≡ length (xs ++ x ∷ []) + 1
longer xs x n e = omega (arith, e, length-append xs (x ∷ []))

pub left-reads : (sealed : Bool) (w : Two) (message : List ℕ) (answer : Result (List ℕ) SaslRefusal) → receives w.left message ≡ answer → Stands sealed w
    → ((making : Making) → Among (read_finds w.left message answer) making → Among w.makings making) → Stands sealed (left_reads w answer)
left-reads sealed w message (Err refusal) e s made = record {
  faces = s.faces;
  left_layer = s.left_layer;
  right_layer = s.right_layer;
  left_sends = s.left_sends;
  right_sends = s.right_sends;
  left_takes = s.left_takes;
  right_takes = s.right_takes;
  left_own = s.left_own;
  right_own = s.right_own;
  left_front = s.left_front;
  right_front = s.right_front;
}
left-reads sealed w message (Ok octets) e s made = record {
  faces = s.faces;
  left_layer = s.left_layer;
  right_layer = s.right_layer;
  left_sends = s.left_sends;
  right_sends = s.right_sends;
  left_takes = longer w.left_read octets w.left.takes s.left_takes;
  right_takes = s.right_takes;
  left_own = s.left_own;
  right_own = s.right_own;
  left_front = s.left_front;
  right_front = reads sealed (right_line sealed w) w.left_read w.left message octets w.makings refl s.right_own s.right_front s.left_layer (facing-back (end_under w.right) (end_under w.left) s.faces) s.left_takes e
      (subst (λ (r : Result (List ℕ) SaslRefusal). (making : Making) → Among (read_finds w.left message r) making → Among w.makings making) (sym e) made);
}

pub right-reads : (sealed : Bool) (w : Two) (message : List ℕ) (answer : Result (List ℕ) SaslRefusal) → receives w.right message ≡ answer → Stands sealed w
    → ((making : Making) → Among (read_finds w.right message answer) making → Among w.makings making) → Stands sealed (right_reads w answer)
right-reads sealed w message (Err refusal) e s made = record {
  faces = s.faces;
  left_layer = s.left_layer;
  right_layer = s.right_layer;
  left_sends = s.left_sends;
  right_sends = s.right_sends;
  left_takes = s.left_takes;
  right_takes = s.right_takes;
  left_own = s.left_own;
  right_own = s.right_own;
  left_front = s.left_front;
  right_front = s.right_front;
}
right-reads sealed w message (Ok octets) e s made = record {
  faces = s.faces;
  left_layer = s.left_layer;
  right_layer = s.right_layer;
  left_sends = s.left_sends;
  right_sends = s.right_sends;
  left_takes = s.left_takes;
  right_takes = longer w.right_read octets w.right.takes s.right_takes;
  left_own = s.left_own;
  right_own = s.right_own;
  right_front = s.right_front;
  left_front = reads sealed (left_line sealed w) w.right_read w.right message octets w.makings refl s.left_own s.left_front s.right_layer s.faces s.right_takes e
      (subst (λ (r : Result (List ℕ) SaslRefusal). (making : Making) → Among (read_finds w.right message r) making → Among w.makings making) (sym e) made);
}

making-is : (sealed : Bool) (l : LayerState) (octets : List ℕ) → l.facts.layer ≡ layer_of sealed → making_by l.facts.layer l octets ≡ wrap_making (end_under l) l.sends sealed octets ∷ []
making-is true l octets layer = rw layer refl
making-is false l octets layer = rw layer refl

added : (sealed : Bool) (l : LayerState) (line : Line) (octets : List ℕ) (makings : List Making) → l.facts.layer ≡ layer_of sealed
    → AreItsOwn line (wrap_making (end_under l) l.sends sealed octets ∷ makings) → AreItsOwn line (making_by l.facts.layer l octets ++ makings)
added sealed l line octets makings layer own = subst (λ (ms : List Making). AreItsOwn line (ms ++ makings)) (sym (making-is sealed l octets layer)) own

pub left-sends : (sealed : Bool) (w : Two) (octets : List ℕ) (answer : Result (List ℕ) SaslRefusal) → w.left.sends < 2 ^ 64 → Stands sealed w → Stands sealed (left_sends w octets answer)
left-sends sealed w octets (Err refusal) small s = record {
  faces = s.faces;
  left_layer = s.left_layer;
  right_layer = s.right_layer;
  left_sends = s.left_sends;
  right_sends = s.right_sends;
  left_takes = s.left_takes;
  right_takes = s.right_takes;
  left_own = s.left_own;
  right_own = s.right_own;
  left_front = s.left_front;
  right_front = s.right_front;
}
left-sends sealed w octets (Ok message) small s = record {
  faces = s.faces;
  left_layer = s.left_layer;
  right_layer = s.right_layer;
  left_sends = longer w.left_said octets w.left.sends s.left_sends;
  right_sends = s.right_sends;
  left_takes = s.left_takes;
  right_takes = s.right_takes;
  right_front = s.right_front;
  left_front = front-more w.right_read w.left_said octets s.left_front;
  left_own = added sealed w.left (said-more (left_line sealed w) octets) octets w.makings s.left_layer (own-sends (left_line sealed w) octets w.makings w.left.sends s.left_own s.left_sends small);
  right_own = added sealed w.left (right_line sealed w) octets w.makings s.left_layer
      (own-hears (right_line sealed w) (end_under w.left) octets w.makings w.left.sends sealed s.right_own (side-of (end_under w.left) (end_under w.right) (facing-back (end_under w.right) (end_under w.left) s.faces)));
}

pub right-sends : (sealed : Bool) (w : Two) (octets : List ℕ) (answer : Result (List ℕ) SaslRefusal) → w.right.sends < 2 ^ 64 → Stands sealed w → Stands sealed (right_sends w octets answer)
right-sends sealed w octets (Err refusal) small s = record {
  faces = s.faces;
  left_layer = s.left_layer;
  right_layer = s.right_layer;
  left_sends = s.left_sends;
  right_sends = s.right_sends;
  left_takes = s.left_takes;
  right_takes = s.right_takes;
  left_own = s.left_own;
  right_own = s.right_own;
  left_front = s.left_front;
  right_front = s.right_front;
}
right-sends sealed w octets (Ok message) small s = record {
  faces = s.faces;
  left_layer = s.left_layer;
  right_layer = s.right_layer;
  left_sends = s.left_sends;
  right_sends = longer w.right_said octets w.right.sends s.right_sends;
  left_takes = s.left_takes;
  right_takes = s.right_takes;
  left_front = s.left_front;
  right_front = front-more w.left_read w.right_said octets s.right_front;
  right_own = added sealed w.right (said-more (right_line sealed w) octets) octets w.makings s.right_layer (own-sends (right_line sealed w) octets w.makings w.right.sends s.right_own s.right_sends small);
  left_own = added sealed w.right (left_line sealed w) octets w.makings s.right_layer
      (own-hears (left_line sealed w) (end_under w.right) octets w.makings w.right.sends sealed s.left_own (side-of (end_under w.right) (end_under w.left) s.faces));
}

unless-left : (sealed : Bool) (w : Two) (octets : List ℕ) (answer : Result (List ℕ) SaslRefusal) (spent : Bool) → is_spent w.left.sends ≡ spent → Stands sealed w
    → Stands sealed (if spent then w else left_sends w octets answer)
unless-left sealed w octets answer true e s = s
unless-left sealed w octets answer false e s = left-sends sealed w octets answer (omega (arith, ltb-false (2 ^ 64 - 2) w.left.sends e)) s

unless-right : (sealed : Bool) (w : Two) (octets : List ℕ) (answer : Result (List ℕ) SaslRefusal) (spent : Bool) → is_spent w.right.sends ≡ spent → Stands sealed w
    → Stands sealed (if spent then w else right_sends w octets answer)
unless-right sealed w octets answer true e s = s
unless-right sealed w octets answer false e s = right-sends sealed w octets answer (omega (arith, ltb-false (2 ^ 64 - 2) w.right.sends e)) s

stands-after : (sealed : Bool) (w : Two) (event : Event) → Stands sealed w → ((making : Making) → Among (finds w event) making → Among w.makings making) → Stands sealed (after w event)
stands-after sealed w (ToLeft message) s made = left-reads sealed w message (receives w.left message) refl s made
stands-after sealed w (ToRight message) s made = right-reads sealed w message (receives w.right message) refl s made
stands-after sealed w (SendLeft octets confounder) s made = unless-left sealed w octets (sends w.left octets confounder) (is_spent w.left.sends) refl s
stands-after sealed w (SendRight octets confounder) s made = unless-right sealed w octets (sends w.right octets confounder) (is_spent w.right.sends) refl s

pub front_law : FrontLaw
front_law sealed w [] s unforged = s
front_law sealed w (event ∷ later) s unforged = front_law sealed (after w event) later (stands-after sealed w event s unforged.0) unforged.1
