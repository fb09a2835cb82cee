-- Two ends under one layer, and somebody between them who delivers whatever octets he likes, in any
-- order and as often as he likes: what an end reads is a front of what the other sent.
use Rattle.std.specs.Prelude.{◌≡◌, ℕ, ◌+◌, Bool, true, false, if◌then◌else◌, List, [], ◌∷◌, ◌++◌}
use Rattle.std.specs.Prelude.{length, Result, Ok, Err}
use Rattle.krb_derive.specs.Making.{Making, Among}
use Rattle.krb_tokens.specs.End.{facing}
use Rattle.krb_tokens.specs.Makings.{wrap_making, unwrapping}
use Rattle.sasl_layer.specs.declared.layer.Layer.{Layer}
use Rattle.sasl_layer.specs.declared.layer.Layer.TheVariants.{Bare, Signed, Sealed}
use Rattle.sasl_layer.specs.State.{LayerState}
use Rattle.sasl_layer.specs.declared.refusal.SaslRefusal.{SaslRefusal}
use Rattle.sasl_layer.specs.Layered.{end_under, is_spent, sends, sent, receives, received}
use Rattle.sasl_layer.specs.Lines.{IsFront, Line, AreItsOwn}

-- ---- what a step hands out, and what it finds verified

-- what is handed out with a message that carries these octets
abbrev pub making_by : Layer → LayerState → List ℕ → List Making
making_by Bare l octets = []
making_by Signed l octets = wrap_making (end_under l) l.sends false octets ∷ []
making_by Sealed l octets = wrap_making (end_under l) l.sends true octets ∷ []

abbrev pub sent_makes : LayerState → List ℕ → Result (List ℕ) SaslRefusal → List Making
sent_makes l octets (Ok message) = making_by l.facts.layer l octets
sent_makes l octets (Err refusal) = []

-- what is found verified in a message that is taken
abbrev pub found_by : Layer → LayerState → List ℕ → List Making
found_by Bare l message = []
found_by Signed l message = (unwrapping (end_under l) message).found
found_by Sealed l message = (unwrapping (end_under l) message).found

abbrev pub read_finds : LayerState → List ℕ → Result (List ℕ) SaslRefusal → List Making
read_finds l message (Ok octets) = found_by l.facts.layer l message
read_finds l message (Err refusal) = []

-- ---- two ends

-- both ends, what each was given to send and what each read, oldest first, and what was handed out
pub record Two : Type 0 where
  pub left : LayerState
  pub right : LayerState
  pub left_said : List (List ℕ)
  pub left_read : List (List ℕ)
  pub right_said : List (List ℕ)
  pub right_read : List (List ℕ)
  pub makings : List Making

pub data Event : Type 0 where
  ToLeft : (message : List ℕ) → Event
  ToRight : (message : List ℕ) → Event
  SendLeft : (octets confounder : List ℕ) → Event
  SendRight : (octets confounder : List ℕ) → Event

-- a list that grows where the answer is one
abbrev pub grown : {A : Type 0} → List (List ℕ) → List ℕ → Result A SaslRefusal → List (List ℕ)
grown list octets (Ok value) = list ++ octets ∷ []
grown list octets (Err refusal) = list

abbrev pub read_on : List (List ℕ) → Result (List ℕ) SaslRefusal → List (List ℕ)
read_on list (Ok octets) = list ++ octets ∷ []
read_on list (Err refusal) = list

abbrev pub left_sends : Two → List ℕ → Result (List ℕ) SaslRefusal → Two
left_sends w octets answer = record w {
  left = sent w.left answer;
  left_said = grown w.left_said octets answer;
  makings = sent_makes w.left octets answer ++ w.makings;
}

abbrev pub right_sends : Two → List ℕ → Result (List ℕ) SaslRefusal → Two
right_sends w octets answer = record w {
  right = sent w.right answer;
  right_said = grown w.right_said octets answer;
  makings = sent_makes w.right octets answer ++ w.makings;
}

abbrev pub left_reads : Two → Result (List ℕ) SaslRefusal → Two
left_reads w answer =
    record w { left = received w.left answer; left_read = read_on w.left_read answer }

abbrev pub right_reads : Two → Result (List ℕ) SaslRefusal → Two
right_reads w answer =
    record w { right = received w.right answer; right_read = read_on w.right_read answer }

-- both ends behind an event
abbrev pub after : Two → Event → Two
after w (ToLeft message) = left_reads w (receives w.left message)
after w (ToRight message) = right_reads w (receives w.right message)
after w (SendLeft octets confounder) =
    if is_spent w.left.sends then w else left_sends w octets (sends w.left octets confounder)
after w (SendRight octets confounder) =
    if is_spent w.right.sends then w else right_sends w octets (sends w.right octets confounder)

-- what an event finds verified
abbrev pub finds : Two → Event → List Making
finds w (ToLeft message) = read_finds w.left message (receives w.left message)
finds w (ToRight message) = read_finds w.right message (receives w.right message)
finds w (SendLeft octets confounder) = []
finds w (SendRight octets confounder) = []

abbrev pub after_all : Two → List Event → Two
after_all w [] = w
after_all w (event ∷ later) = after_all (after w event) later

-- what was found verified was handed out before
abbrev pub NoForgery : Two → List Event → Type 0
NoForgery w [] = Unit {0}
NoForgery w (event ∷ later) =
    ((making : Making) → Among (finds w event) making → Among w.makings making)
    × NoForgery (after w event) later

-- ---- the law

-- the layer of tokens that are sealed, or aren't
abbrev pub layer_of : Bool → Layer
layer_of true = Sealed
layer_of false = Signed

-- the direction from the left end, and from the right one
abbrev pub left_line : Bool → Two → Line
left_line sealed w = record { sender = end_under w.left; sealed = sealed; said = w.left_said }

abbrev pub right_line : Bool → Two → Line
right_line sealed w = record { sender = end_under w.right; sealed = sealed; said = w.right_said }

-- both ends are done, with one key and one layer, which isn't none, and what was handed out under
-- it is known
pub record Stands (sealed : Bool) (w : Two) : Type 0 where
  pub faces : end_under w.right ≡ facing (end_under w.left)
  pub left_layer : w.left.facts.layer ≡ layer_of sealed
  pub right_layer : w.right.facts.layer ≡ layer_of sealed
  pub left_sends : w.left.sends ≡ length w.left_said + 1
  pub right_sends : w.right.sends ≡ length w.right_said + 1
  pub left_takes : w.left.takes ≡ length w.left_read + 1
  pub right_takes : w.right.takes ≡ length w.right_read + 1
  pub left_own : AreItsOwn (left_line sealed w) w.makings
  pub right_own : AreItsOwn (right_line sealed w) w.makings
  pub left_front : IsFront w.right_read w.left_said
  pub right_front : IsFront w.left_read w.right_said

-- what each end read is a front of what the other sent, after every list of events
abbrev pub FrontLaw : Type 0
FrontLaw = (sealed : Bool) (w : Two) (events : List Event) → Stands sealed w → NoForgery w events
    → Stands sealed (after_all w events)
