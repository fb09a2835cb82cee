-- What a run did turn by turn: a turn is a message that was read, and what was drawn and sent for
-- it, or a message that was sent unasked.
use Rattle.std.specs.Prelude.{◌≡◌, ◌⊎◌, ℕ, ◌<◌, Bool, IsTrue, List, [], ◌∷◌, ◌++◌, length, take}
use Rattle.std.specs.Prelude.{flat_map, Result, Ok, Err}
use Rattle.sec_base.specs.Link.{Wire}
use Rattle.sec_base.specs.declared.link.Link as links
use Rattle.sec_base.specs.declared.clock.Clock as clocks
use Rattle.sec_base.specs.declared.draw.Draw as draws
use Rattle.sasl_frames.specs.Messages.{all_framed, IsTorn, IsFront}
use Rattle.sasl_frames.specs.declared.message.ReadEnd.{ReadEnd}
use Rattle.sasl_frames.specs.declared.message.ReadEnd.TheVariants as reads
use Rattle.sasl_layer.specs.declared.refusal.SaslRefusal.{SaslRefusal}
use Rattle.sasl_layer.specs.declared.refusal.SaslRefusal.TheVariants as refusals
use Rattle.sasl_options.specs.declared.ending.RunEnd.{RunEnd}
use Rattle.sasl_options.specs.declared.ending.RunEnd.TheVariants.{Usage, CannotLoad, Bad, NoKey}
use Rattle.sasl_options.specs.declared.ending.RunEnd.TheVariants.{NoCredential, NoMemory, LinkFault}
use Rattle.sasl_options.specs.declared.ending.RunEnd.TheVariants.{PeerEnded, Refused, Finished}

-- the octets that were taken of the link, the moments and the random octets that were given, and
-- the messages that were sent
pub record Turn : Type 0 where
  pub took : List ℕ
  pub moments : List ℕ
  pub octets : List ℕ
  pub said : List (List ℕ)

-- the same of turns in their order; a message is written with its length in front
abbrev pub took_of : List Turn → List ℕ
took_of turns = flat_map (λ turn. turn.took) turns

abbrev pub wrote_of : List Turn → List ℕ
wrote_of turns = flat_map (λ turn. all_framed turn.said) turns

abbrev pub moments_of : List Turn → List ℕ
moments_of turns = flat_map (λ turn. turn.moments) turns

abbrev pub octets_of : List Turn → List ℕ
octets_of turns = flat_map (λ turn. turn.octets) turns

-- ---- devices

-- `took` was taken, of what was there or came meanwhile, and `wrote` was written
pub record Went (old new : Wire) (took wrote : List ℕ) : Type 0 where
  pub taken : new.taken ≡ old.taken ++ took
  pub coming : (more : List ℕ) × (old.coming ++ more ≡ took ++ new.coming)
  pub written : new.written ≡ old.written ++ wrote

-- what link, clock and source of random octets show; the last two may not tell what they gave
pub record Seen : Type 0 where
  pub wire : Wire
  pub clock : Bool
  pub moments : List ℕ
  pub draw : Bool
  pub octets : List ℕ

abbrev pub seen : {L C D : Type 0} → links.Ghosts L → clocks.Ghosts C → draws.Ghosts D → L → C → D
    → Seen
seen links clocks draws link clock draw = record {
  wire = links.wire link;
  clock = clocks.tells clock;
  moments = clocks.given clock;
  draw = draws.tells draw;
  octets = draws.given draw;
}

-- these octets were taken and written, and these moments and random octets were given
pub record Deals (old new : Seen) (took wrote moments octets : List ℕ) : Type 0 where
  pub went : Went old.wire new.wire took wrote
  pub clock : IsTrue new.clock → IsTrue old.clock
  pub moments_are : IsTrue new.clock → new.moments ≡ old.moments ++ moments
  pub draw : IsTrue new.draw → IsTrue old.draw
  pub octets_are : IsTrue new.draw → new.octets ≡ old.octets ++ octets

-- the same of a turn
abbrev pub DealsTurn : Seen → Seen → Turn → Type 0
DealsTurn old new turn = Deals old new turn.took (all_framed turn.said) turn.moments turn.octets

-- ---- turns in a row

-- the turns lead from one state to another: each does what `Does` says of its state, and what it
-- comes to
abbrev pub Goes : {S : Type 0} → (S → Turn → Result S SaslRefusal → Type 0) → S → List Turn → S
    → Type 0
Goes Does start [] stands = stands ≡ start
Goes {S} Does start (turn ∷ turns) stands =
    (next : S) × Does start turn (Ok next) × Goes Does next turns stands

-- what came after the last whole turn
pub record Rest : Type 0 where
  pub took : List ℕ
  pub wrote : List ℕ
  pub moments : List ℕ
  pub octets : List ℕ

-- nothing was drawn and written
pub record IsQuiet (rest : Rest) : Type 0 where
  pub wrote : rest.wrote ≡ []
  pub moments : rest.moments ≡ []
  pub octets : rest.octets ≡ []

-- a turn of which all was written, or a front
pub record IsTurn (turn : Turn) (rest : Rest) : Type 0 where
  pub took : rest.took ≡ turn.took
  pub front : (count : ℕ) × (rest.wrote ≡ take count (all_framed turn.said))
  pub moments : rest.moments ≡ turn.moments
  pub octets : rest.octets ≡ turn.octets

-- ---- the end

-- the end of a run that is refused so
abbrev pub end_of : SaslRefusal → RunEnd
end_of refusals.NoKerberos = Refused refusals.NoKerberos
end_of (refusals.Mech refusal) = Refused (refusals.Mech refusal)
end_of (refusals.Token refusal) = Refused (refusals.Token refusal)
end_of refusals.Length = Refused refusals.Length
end_of refusals.Layers = Refused refusals.Layers
end_of refusals.Size = Refused refusals.Size
end_of refusals.Identity = Refused refusals.Identity
end_of (refusals.Order expected) = Refused (refusals.Order expected)
end_of refusals.TooLong = Refused refusals.TooLong
end_of refusals.NoMemory = NoMemory

-- the end of a run that read no message; that of the stream may finish it
abbrev pub end_of_read : ReadEnd → RunEnd → RunEnd
end_of_read reads.Ended ended = ended
end_of_read reads.Torn ended = PeerEnded
end_of_read reads.LinkFault ended = LinkFault
end_of_read reads.NoMemory ended = NoMemory

-- why a run ends so that stands in this state, by what came after the last whole turn and by what
-- is still to come: it finished; the stream ended where a message was due, or inside one; the next
-- turn was refused; the link failed, inside a message or a turn's writing; or there was no memory.
-- `Does` says what a turn does, `limit` how many octets the next message may have, `IsDone` where a
-- run is finished, and `Waits` where the end of the stream is none of it
abbrev pub Cause : {S : Type 0} → (S → Turn → Result S SaslRefusal → Type 0) → (S → ℕ)
    → (S → List ℕ → Type 0) → (S → Type 0) → S → Rest → List ℕ → RunEnd → Type 0
Cause Does limit IsDone Waits stands rest coming Usage = ⊥
Cause Does limit IsDone Waits stands rest coming CannotLoad = ⊥
Cause Does limit IsDone Waits stands rest coming (Bad at) = ⊥
Cause Does limit IsDone Waits stands rest coming NoKey = ⊥
Cause Does limit IsDone Waits stands rest coming NoCredential = ⊥
Cause Does limit IsDone Waits stands rest coming NoMemory = rest.wrote ≡ []
Cause {S} Does limit IsDone Waits stands rest coming LinkFault =
    (IsQuiet rest × IsFront (limit stands) rest.took)
    ⊎ ((turn : Turn) × (next : S) × Does stands turn (Ok next) × IsTurn turn rest)
Cause Does limit IsDone Waits stands rest coming PeerEnded = IsQuiet rest × (coming ≡ [])
    × (((rest.took ≡ []) × Waits stands)
    ⊎ ((0 < length rest.took) × IsTorn (limit stands) rest.took))
Cause Does limit IsDone Waits stands rest coming (Refused refusal) = (turn : Turn)
    × Does stands turn (Err refusal) × IsTurn turn rest × (rest.wrote ≡ all_framed turn.said)
Cause Does limit IsDone Waits stands rest coming Finished =
    IsQuiet rest × (rest.took ≡ []) × IsDone stands coming

-- turns led to this state, behind which the run ended so; what was taken, written and given is
-- theirs, and what came after the last whole one
pub record Spoken {S : Type 0} (Does : S → Turn → Result S SaslRefusal → Type 0) (limit : S → ℕ)
    (IsDone : S → List ℕ → Type 0) (Waits : S → Type 0) (start stands : S) (old new : Seen)
    (end : RunEnd) : Type 0 where
  pub turns : List Turn
  pub rest : Rest
  pub goes : Goes Does start turns stands
  pub cause : Cause Does limit IsDone Waits stands rest new.wire.coming end
  pub deals : Deals old new (took_of turns ++ rest.took) (wrote_of turns ++ rest.wrote)
      (moments_of turns ++ rest.moments) (octets_of turns ++ rest.octets)

-- ---- a part of a run

-- all was done that `Makes` says of these moments, random octets and messages
pub record Whole {S : Type 0} (Makes : List ℕ → List ℕ → List (List ℕ) → Result S SaslRefusal
    → Type 0) (old new : Seen) (answer : Result S SaslRefusal) : Type 0 where
  pub moments : List ℕ
  pub octets : List ℕ
  pub said : List (List ℕ)
  pub makes : Makes moments octets said answer
  pub deals : Deals old new [] (all_framed said) moments octets

-- the same, but a front of the messages was written
pub record Broken {S : Type 0} (Makes : List ℕ → List ℕ → List (List ℕ) → Result S SaslRefusal
    → Type 0) (old new : Seen) : Type 0 where
  pub moments : List ℕ
  pub octets : List ℕ
  pub said : List (List ℕ)
  pub next : S
  pub makes : Makes moments octets said (Ok next)
  pub count : ℕ
  pub deals : Deals old new [] (take count (all_framed said)) moments octets

-- what is made of a message that was read, or unasked: all is written, a front at a fault of the
-- link, and nothing at want of memory
abbrev pub Made : {S : Type 0} → (List ℕ → List ℕ → List (List ℕ) → Result S SaslRefusal → Type 0)
    → Seen → Seen → Result S RunEnd → Type 0
Made Makes old new (Ok next) = Whole Makes old new (Ok next)
Made Makes old new (Err Usage) = ⊥
Made Makes old new (Err CannotLoad) = ⊥
Made Makes old new (Err (Bad at)) = ⊥
Made Makes old new (Err NoKey) = ⊥
Made Makes old new (Err NoCredential) = ⊥
Made Makes old new (Err NoMemory) =
    (moments : List ℕ) × (octets : List ℕ) × Deals old new [] [] moments octets
Made Makes old new (Err LinkFault) = Broken Makes old new
Made Makes old new (Err PeerEnded) = ⊥
Made Makes old new (Err (Refused refusal)) = Whole Makes old new (Err refusal)
Made Makes old new (Err Finished) = ⊥

-- a run that stands so ended behind what came after its last whole turn
pub record Ended {S : Type 0} (Does : S → Turn → Result S SaslRefusal → Type 0) (limit : S → ℕ)
    (IsDone : S → List ℕ → Type 0) (Waits : S → Type 0) (stands : S) (old new : Seen)
    (end : RunEnd) : Type 0 where
  pub rest : Rest
  pub cause : Cause Does limit IsDone Waits stands rest new.wire.coming end
  pub deals : Deals old new rest.took rest.wrote rest.moments rest.octets

-- a turn was done
pub record Did {S : Type 0} (Does : S → Turn → Result S SaslRefusal → Type 0) (stands next : S)
    (old new : Seen) : Type 0 where
  pub turn : Turn
  pub does : Does stands turn (Ok next)
  pub deals : DealsTurn old new turn

-- turns led from one state to another
pub record Leads {S : Type 0} (Does : S → Turn → Result S SaslRefusal → Type 0) (start stands : S)
    (old new : Seen) : Type 0 where
  pub turns : List Turn
  pub goes : Goes Does start turns stands
  pub deals : Deals old new (took_of turns) (wrote_of turns) (moments_of turns) (octets_of turns)

-- the same clock and source of random octets beside a link
abbrev pub beside : Seen → Wire → Seen
beside a wire = record {
  wire = wire;
  clock = a.clock;
  moments = a.moments;
  draw = a.draw;
  octets = a.octets;
}
