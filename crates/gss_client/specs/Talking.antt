-- What a client says by the octets that it hears: a part of its talk takes the stream of octets
-- that are to come, writes octets, and leaves what follows. Nothing here knows how reads cut the
-- stream.
use Rattle.std.specs.Prelude.{ℕ, List, [], ◌++◌, Result, Ok, Err}
use Rattle.rpc_msgs.specs.Records.{last_fragment}
use Rattle.gss_client.specs.declared.refusal.ClientRefusal.{ClientRefusal}
use Rattle.gss_client.specs.declared.refusal.ClientRefusal.TheVariants.{PeerEnded, BadReply}
use Rattle.gss_client.specs.declared.refusal.ReplyWhy.TheVariants.{Record}
use Rattle.gss_client.specs.Hearing.{Heard, whole, ended, unfit, next_of}

-- what a part wrote, what came of it, and the rest of the stream
pub record Said (A : Type 0) : Type 0 where
  pub written : List ℕ
  pub answer : Result A ClientRefusal
  pub rest : List ℕ

-- a part of a talk, of which an `A` comes: what it says to the stream of octets that it hears
abbrev pub Talking : Type 0 → Type 0
Talking A = List ℕ → Said A

-- what a part says: what it wrote, what came of it, and the rest
abbrev pub said : {A : Type 0} → List ℕ → Result A ClientRefusal → List ℕ → Said A
said written answer rest = record { written = written; answer = answer; rest = rest }

-- the same behind what was written before
abbrev pub after : {A : Type 0} → List ℕ → Said A → Said A
after written s = said (written ++ s.written) s.answer s.rest

-- the part that follows, unless this one was refused
abbrev pub goes_on : {A B : Type 0} → List ℕ → List ℕ → (A → Talking B) → Result A ClientRefusal
    → Said B
goes_on written rest next (Ok x) = after written (next x rest)
goes_on written rest next (Err refusal) = said written (Err refusal) rest

infixl 10 ◌>>=◌
-- one part after the other, which takes what came of the first and hears the rest
abbrev pub ◌>>=◌ : {A B : Type 0} → Talking A → (A → Talking B) → Talking B
(part >>= next) stream = goes_on (part stream).written (part stream).rest next (part stream).answer

-- a judgement of what was heard
abbrev pub judges : {A : Type 0} → Result A ClientRefusal → Talking A
judges answer stream = said [] answer stream

-- the next record of the stream: the stream may end before it is whole, or it may be none that fits
abbrev pub by_heard : Heard → Said (List ℕ)
by_heard (whole octets rest) = said [] (Ok octets) rest
by_heard ended = said [] (Err PeerEnded) []
by_heard unfit = said [] (Err (BadReply Record)) []

-- the next record is heard, and nothing is written
unfoldable pub listens : Talking (List ℕ)
listens stream = by_heard (next_of stream)

-- a call is written as one record, and its reply is the next record of the stream
unfoldable pub exchanges : List ℕ → Talking (List ℕ)
exchanges call stream = after (last_fragment call) (listens stream)
