-- Parts of the theorem that speak of one end, or of what was handed out.
use Rattle.std.proofs.Common.{◌≡◌, ◌⊎◌, inl, inr, ℕ, ◌-◌, ◌<◌, ◌^◌, Bool, true, false, refl, ap, subst, arith, List, [], ◌∷◌, ◌++◌}
use Rattle.std.specs.Prelude.{Result, Ok, Err, if◌then◌else◌}
use Rattle.std.proofs.lemmas.Bool.{ltb-false}
use Rattle.krb_derive.specs.declared.key.Key.{Key}
use Rattle.krb_derive.specs.declared.sealing.OpenRefusal.{OpenRefusal}
use Rattle.krb_derive.specs.Making.{Making, Among, found_in}
use Rattle.krb_derive.specs.Sealing.{opened}
use Rattle.krb_tokens.specs.declared.end.TokenEnd.{TokenEnd}
use Rattle.krb_tokens.specs.declared.end.TokenRefusal.{TokenRefusal}
use Rattle.krb_tokens.specs.declared.wrap.Unwrapped.{Unwrapped}
use Rattle.krb_tokens.specs.End.{other_side, seal_usage}
use Rattle.krb_tokens.specs.Wrap.{unwrapped, body_of}
use Rattle.krb_tokens.specs.Makings.{wrap_making, unwrapping, found_of_wrap, found_of_content}
use Rattle.sasl_layer.specs.declared.layer.Layer.{Layer}
use Rattle.sasl_layer.specs.declared.layer.Layer.TheVariants.{Bare, Signed, Sealed}
use Rattle.sasl_layer.specs.declared.refusal.SaslRefusal.{SaslRefusal}
use Rattle.sasl_layer.specs.State.{LayerState}
use Rattle.sasl_layer.specs.Layered.{end_under, is_spent, sends, sent, receives, received}
use Rattle.sasl_layer.specs.Runs.{Two, making_by, sent_makes, found_by, read_finds, layer_of, Stands}
use Rattle.sasl_layer.proofs.Runs as runs
use Rattle.sasl_pair.specs.declared.event.PairHappened.{PairHappened}
use Rattle.sasl_pair.specs.declared.event.PairHappened.TheVariants as happens
use Rattle.sasl_pair.specs.Moves.{Moved, read_as, sent_as, reads, gives}
use Rattle.sasl_pair.specs.Courses.{layer_makes, layer_finds, read_on, said_on}

-- ---- lists

pub among-more : (xs ys : List Making) (m : Making) → Among ys m → Among (xs ++ ys) m
among-more [] ys m a = a
among-more (x ∷ xs) ys m a = inr (among-more xs ys m a)

pub among-either : (xs ys : List Making) (m : Making) → Among (xs ++ ys) m → Among xs m ⊎ Among ys m
among-either [] ys m a = inr a
among-either (x ∷ xs) ys m (inl e) = inl (inl e)
among-either (x ∷ xs) ys m (inr a) = elim (among-either xs ys m a) [
  | inl b ↦ inl (inr b)
  | inr b ↦ inr b
]

-- ---- the key of what was found verified

opened-key : (key : Key) (usage : ℕ) (answer : Result (List ℕ) OpenRefusal) (m : Making) → Among (found_in key usage answer) m → m.key ≡ key
opened-key key usage (Ok octets) m (inl e) = ap (λ (x : Making). x.key) e
opened-key key usage (Ok octets) m (inr a) = absurd a
opened-key key usage (Err refusal) m a = absurd a

content-key : (end : TokenEnd) (token : List ℕ) (sealed : Bool) (content : List ℕ) (m : Making) → Among (found_of_content end token sealed content) m → m.key ≡ end.key
content-key end token true content m a = opened-key end.key (seal_usage (other_side end.side)) (opened end.key (seal_usage (other_side end.side)) (body_of token)) m a
content-key end token false content m (inl e) = ap (λ (x : Making). x.key) e
content-key end token false content m (inr a) = absurd a

wrap-key : (end : TokenEnd) (token : List ℕ) (answer : Result Unwrapped TokenRefusal) (m : Making) → Among (found_of_wrap end token answer) m → m.key ≡ end.key
wrap-key end token (Ok value) m a = content-key end token value.sealed value.content m a
wrap-key end token (Err refusal) m a = absurd a

pub found-key : (end : TokenEnd) (token : List ℕ) (m : Making) → Among (unwrapping end token).found m → m.key ≡ end.key
found-key end token m a = wrap-key end token (unwrapped end token) m a

by-layer-key : (layer : Layer) (end : LayerState) (message : List ℕ) (m : Making) → Among (found_by layer end message) m → m.key ≡ end.facts.done.key
by-layer-key Bare end message m a = absurd a
by-layer-key Signed end message m a = found-key (end_under end) message m a
by-layer-key Sealed end message m a = found-key (end_under end) message m a

read-key : (end : LayerState) (message : List ℕ) (answer : Result (List ℕ) SaslRefusal) (m : Making) → Among (read_finds end message answer) m → m.key ≡ end.facts.done.key
read-key end message (Ok octets) m a = by-layer-key end.facts.layer end message m a
read-key end message (Err refusal) m a = absurd a

unless-spent : (spent : Bool) (found : List Making) (m : Making) → Among (if spent then [] else found) m → Among found m
unless-spent true found m a = absurd a
unless-spent false found m a = a

pub layer-key : (end : LayerState) (message : List ℕ) (m : Making) → Among (layer_finds end message) m → m.key ≡ end.facts.done.key
layer-key end message m a = read-key end message (receives end message) m (unless-spent (is_spent end.takes) (read_finds end message (receives end message)) m a)

-- ---- what an end under the layer hands out

by-layer-makes : (layer : Layer) (end : LayerState) (octets : List ℕ) (m : Making) → Among (making_by layer end octets) m → m.usage ≡ seal_usage end.side
by-layer-makes Bare end octets m a = absurd a
by-layer-makes Signed end octets m (inl e) = ap (λ (x : Making). x.usage) e
by-layer-makes Signed end octets m (inr a) = absurd a
by-layer-makes Sealed end octets m (inl e) = ap (λ (x : Making). x.usage) e
by-layer-makes Sealed end octets m (inr a) = absurd a

sent-usage : (end : LayerState) (octets : List ℕ) (answer : Result (List ℕ) SaslRefusal) (m : Making) → Among (sent_makes end octets answer) m → m.usage ≡ seal_usage end.side
sent-usage end octets (Ok message) m a = by-layer-makes end.facts.layer end octets m a
sent-usage end octets (Err refusal) m a = absurd a

pub layer-usage : (end : LayerState) (octets confounder : List ℕ) (m : Making) → Among (layer_makes end octets confounder) m → m.usage ≡ seal_usage end.side
layer-usage end octets confounder m a =
    sent-usage end octets (sends end octets confounder) m (unless-spent (is_spent end.sends) (sent_makes end octets (sends end octets confounder)) m a)

-- it is the token with the end's next number
by-layer-is : (sealed : Bool) (end : LayerState) (octets : List ℕ) (m : Making) → Among (making_by (layer_of sealed) end octets) m → m ≡ wrap_making (end_under end) end.sends sealed octets
by-layer-is true end octets m (inl e) = e
by-layer-is true end octets m (inr a) = absurd a
by-layer-is false end octets m (inl e) = e
by-layer-is false end octets m (inr a) = absurd a

sent-is : (sealed : Bool) (end : LayerState) (octets : List ℕ) (answer : Result (List ℕ) SaslRefusal) (m : Making) → end.facts.layer ≡ layer_of sealed
    → Among (sent_makes end octets answer) m → m ≡ wrap_making (end_under end) end.sends sealed octets
sent-is sealed end octets (Ok message) m layer a = by-layer-is sealed end octets m (subst (λ (l : Layer). Among (making_by l end octets) m) layer a)
sent-is sealed end octets (Err refusal) m layer a = absurd a

pub layer-is : (sealed : Bool) (end : LayerState) (octets confounder : List ℕ) (m : Making) → end.facts.layer ≡ layer_of sealed
    → Among (layer_makes end octets confounder) m → m ≡ wrap_making (end_under end) end.sends sealed octets
layer-is sealed end octets confounder m layer a =
    sent-is sealed end octets (sends end octets confounder) m layer (unless-spent (is_spent end.sends) (sent_makes end octets (sends end octets confounder)) m a)

sent-bare : (end : LayerState) (octets : List ℕ) (answer : Result (List ℕ) SaslRefusal) (m : Making) → end.facts.layer ≡ Bare → Among (sent_makes end octets answer) m → ⊥
sent-bare end octets (Ok message) m layer a = subst (λ (l : Layer). Among (making_by l end octets) m) layer a
sent-bare end octets (Err refusal) m layer a = a

-- without a layer nothing is
pub layer-bare : (end : LayerState) (octets confounder : List ℕ) (m : Making) → end.facts.layer ≡ Bare → Among (layer_makes end octets confounder) m → ⊥
layer-bare end octets confounder m layer a =
    sent-bare end octets (sends end octets confounder) m layer (unless-spent (is_spent end.sends) (sent_makes end octets (sends end octets confounder)) m a)

-- a number that is still there
unspent-by : (spent : Bool) (number : ℕ) (found : List Making) (m : Making) → is_spent number ≡ spent → Among (if spent then [] else found) m → number < 2 ^ 64
unspent-by true number found m e a = absurd a
unspent-by false number found m e a = omega (arith, ltb-false (2 ^ 64 - 2) number e)

pub layer-small : (end : LayerState) (octets confounder : List ℕ) (m : Making) → Among (layer_makes end octets confounder) m → end.sends < 2 ^ 64
layer-small end octets confounder m a = unspent-by (is_spent end.sends) end.sends (sent_makes end octets (sends end octets confounder)) m refl a

-- ---- an end under the layer stays what it is

received-facts : (end : LayerState) (answer : Result (List ℕ) SaslRefusal) → (received end answer).facts ≡ end.facts
received-facts end (Ok octets) = refl
received-facts end (Err refusal) = refl

received-side : (end : LayerState) (answer : Result (List ℕ) SaslRefusal) → (received end answer).side ≡ end.side
received-side end (Ok octets) = refl
received-side end (Err refusal) = refl

sent-facts : (end : LayerState) (answer : Result (List ℕ) SaslRefusal) → (sent end answer).facts ≡ end.facts
sent-facts end (Ok octets) = refl
sent-facts end (Err refusal) = refl

sent-side : (end : LayerState) (answer : Result (List ℕ) SaslRefusal) → (sent end answer).side ≡ end.side
sent-side end (Ok octets) = refl
sent-side end (Err refusal) = refl

abbrev moved-by : Bool → LayerState → LayerState → PairHappened → Moved LayerState
moved-by spent end next happened = if spent then record { to = end; says = happens.Nothing } else record { to = next; says = happened }

facts-by : (spent : Bool) (end next : LayerState) (happened : PairHappened) → next.facts ≡ end.facts → (moved-by spent end next happened).to.facts ≡ end.facts
facts-by true end next happened e = refl
facts-by false end next happened e = e

side-by : (spent : Bool) (end next : LayerState) (happened : PairHappened) → next.side ≡ end.side → (moved-by spent end next happened).to.side ≡ end.side
side-by true end next happened e = refl
side-by false end next happened e = e

pub reads-facts : (end : LayerState) (message : List ℕ) → (reads end message).to.facts ≡ end.facts
reads-facts end message = facts-by (is_spent end.takes) end (received end (receives end message)) (read_as (receives end message)) (received-facts end (receives end message))

pub reads-side : (end : LayerState) (message : List ℕ) → (reads end message).to.side ≡ end.side
reads-side end message = side-by (is_spent end.takes) end (received end (receives end message)) (read_as (receives end message)) (received-side end (receives end message))

pub gives-facts : (end : LayerState) (octets confounder : List ℕ) → (gives end octets confounder).to.facts ≡ end.facts
gives-facts end octets confounder = facts-by (is_spent end.sends) end (sent end (sends end octets confounder)) (sent_as (sends end octets confounder)) (sent-facts end (sends end octets confounder))

pub gives-side : (end : LayerState) (octets confounder : List ℕ) → (gives end octets confounder).to.side ≡ end.side
gives-side end octets confounder = side-by (is_spent end.sends) end (sent end (sends end octets confounder)) (sent_as (sends end octets confounder)) (sent-side end (sends end octets confounder))

-- ---- two ends that stand, behind an event at one of them

as-before : (sealed : Bool) (w : Two) → Stands sealed w → Stands sealed (record {
  left = w.left;
  right = w.right;
  left_said = w.left_said;
  left_read = w.left_read;
  right_said = w.right_said;
  right_read = w.right_read;
  makings = w.makings;
})
as-before sealed w s = record {
  faces = s.faces;
  left_layer = s.left_layer;
  right_layer = s.right_layer;
  left_sends = s.left_sends;
  right_sends = s.right_sends;
  left_takes = s.left_takes;
  right_takes = s.right_takes;
  left_own = s.left_own;
  right_own = s.right_own;
  left_front = s.left_front;
  right_front = s.right_front;
}

abbrev AreMade : List Making → List Making → Type 0
AreMade found makings = (making : Making) → Among found making → Among makings making

left-read-by : (sealed : Bool) (w : Two) (message : List ℕ) (answer : Result (List ℕ) SaslRefusal) (spent : Bool) → receives w.left message ≡ answer → Stands sealed w
    → AreMade (if spent then [] else read_finds w.left message answer) w.makings
    → Stands sealed (record w {
      left = (moved-by spent w.left (received w.left answer) (read_as answer)).to;
      left_read = read_on w.left_read (moved-by spent w.left (received w.left answer) (read_as answer)).says;
    })
left-read-by sealed w message answer true e s made = as-before sealed w s
left-read-by sealed w message (Ok octets) false e s made = runs.left-reads sealed w message (Ok octets) e s made
left-read-by sealed w message (Err refusal) false e s made = runs.left-reads sealed w message (Err refusal) e s made

pub left-heard : (sealed : Bool) (w : Two) (message : List ℕ) → Stands sealed w → AreMade (layer_finds w.left message) w.makings
    → Stands sealed (record w { left = (reads w.left message).to; left_read = read_on w.left_read (reads w.left message).says })
left-heard sealed w message s made = left-read-by sealed w message (receives w.left message) (is_spent w.left.takes) refl s made

right-read-by : (sealed : Bool) (w : Two) (message : List ℕ) (answer : Result (List ℕ) SaslRefusal) (spent : Bool) → receives w.right message ≡ answer → Stands sealed w
    → AreMade (if spent then [] else read_finds w.right message answer) w.makings
    → Stands sealed (record w {
      right = (moved-by spent w.right (received w.right answer) (read_as answer)).to;
      right_read = read_on w.right_read (moved-by spent w.right (received w.right answer) (read_as answer)).says;
    })
right-read-by sealed w message answer true e s made = as-before sealed w s
right-read-by sealed w message (Ok octets) false e s made = runs.right-reads sealed w message (Ok octets) e s made
right-read-by sealed w message (Err refusal) false e s made = runs.right-reads sealed w message (Err refusal) e s made

pub right-heard : (sealed : Bool) (w : Two) (message : List ℕ) → Stands sealed w → AreMade (layer_finds w.right message) w.makings
    → Stands sealed (record w { right = (reads w.right message).to; right_read = read_on w.right_read (reads w.right message).says })
right-heard sealed w message s made = right-read-by sealed w message (receives w.right message) (is_spent w.right.takes) refl s made

left-sent-by : (sealed : Bool) (w : Two) (octets : List ℕ) (answer : Result (List ℕ) SaslRefusal) (spent : Bool) → is_spent w.left.sends ≡ spent → Stands sealed w
    → Stands sealed (record w {
      left = (moved-by spent w.left (sent w.left answer) (sent_as answer)).to;
      left_said = said_on w.left_said octets (moved-by spent w.left (sent w.left answer) (sent_as answer)).says;
      makings = (if spent then [] else sent_makes w.left octets answer) ++ w.makings;
    })
left-sent-by sealed w octets answer true e s = as-before sealed w s
left-sent-by sealed w octets (Ok message) false e s = runs.left-sends sealed w octets (Ok message) (omega (arith, ltb-false (2 ^ 64 - 2) w.left.sends e)) s
left-sent-by sealed w octets (Err refusal) false e s = runs.left-sends sealed w octets (Err refusal) (omega (arith, ltb-false (2 ^ 64 - 2) w.left.sends e)) s

pub left-spoke : (sealed : Bool) (w : Two) (octets confounder : List ℕ) → Stands sealed w
    → Stands sealed (record w {
      left = (gives w.left octets confounder).to;
      left_said = said_on w.left_said octets (gives w.left octets confounder).says;
      makings = layer_makes w.left octets confounder ++ w.makings;
    })
left-spoke sealed w octets confounder s = left-sent-by sealed w octets (sends w.left octets confounder) (is_spent w.left.sends) refl s

right-sent-by : (sealed : Bool) (w : Two) (octets : List ℕ) (answer : Result (List ℕ) SaslRefusal) (spent : Bool) → is_spent w.right.sends ≡ spent → Stands sealed w
    → Stands sealed (record w {
      right = (moved-by spent w.right (sent w.right answer) (sent_as answer)).to;
      right_said = said_on w.right_said octets (moved-by spent w.right (sent w.right answer) (sent_as answer)).says;
      makings = (if spent then [] else sent_makes w.right octets answer) ++ w.makings;
    })
right-sent-by sealed w octets answer true e s = as-before sealed w s
right-sent-by sealed w octets (Ok message) false e s = runs.right-sends sealed w octets (Ok message) (omega (arith, ltb-false (2 ^ 64 - 2) w.right.sends e)) s
right-sent-by sealed w octets (Err refusal) false e s = runs.right-sends sealed w octets (Err refusal) (omega (arith, ltb-false (2 ^ 64 - 2) w.right.sends e)) s

pub right-spoke : (sealed : Bool) (w : Two) (octets confounder : List ℕ) → Stands sealed w
    → Stands sealed (record w {
      right = (gives w.right octets confounder).to;
      right_said = said_on w.right_said octets (gives w.right octets confounder).says;
      makings = layer_makes w.right octets confounder ++ w.makings;
    })
right-spoke sealed w octets confounder s = right-sent-by sealed w octets (sends w.right octets confounder) (is_spent w.right.sends) refl s
