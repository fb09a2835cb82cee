-- Datagrams that were answered, in order.
use Rattle.std.specs.Prelude.{◌≡◌, ℕ, ◌≤◌, nat_lt, if◌then◌else◌, IsTrue, List, [], ◌∷◌, ◌++◌}
use Rattle.std.specs.Prelude.{length, take, map, Option, None, Some}
use Rattle.std.specs.List.{AllByRecursion, flat_map}
use Rattle.std.specs.Int.{w32, from_be_bytes}
use Rattle.sec_base.specs.Answers.{Rose}
use Rattle.accept_book.specs.RecordShown.{Asked, Ruling}
use Rattle.accept_book.specs.declared.book_answer.Admitted.{Admitted}
use Rattle.rpc_program.specs.Programs.{Serving}
use Rattle.gss_server.specs.Answers.{IsDecided}
use Rattle.gss_server.specs.Connections.{IsExact, ruling_for}
use Rattle.gss_server.specs.Turns.{Wanted}
use Rattle.gss_server.specs.declared.answer.Kept.{Kept}
use Rattle.gss_server.specs.declared.gate.Gate as gates
use Rattle.again_gate.specs.Again.{AgainOf}
use Rattle.again_gate.specs.Turns.{Turned, Turning}
use Rattle.datagram_post.specs.declared.post.Post as posts
use Rattle.rpc_datagram.specs.declared.serving.ServeEnd.{ServeEnd}
use Rattle.rpc_datagram.specs.declared.serving.ServeEnd.TheVariants as ends

-- the record that a datagram is; one of more than 8,192 octets isn't read
abbrev pub record_of : List ℕ → List ℕ
record_of octets = if nat_lt 8192 (length octets) then [] else octets

-- the transaction number of a record, its first word (RFC 5531, 9); 0 where it has none
abbrev pub xid_of : List ℕ → ℕ
xid_of octets = if nat_lt (length octets) 4 then 0 else from_be_bytes w32 (take 4 octets)

-- a datagram, and what was kept of its answer
pub record Datagram : Type 0 where
  pub octets : List ℕ
  pub kept : Kept

-- what the rules of a record say of a datagram, by its kept answer and what is served
abbrev pub ruling_of : Serving → Datagram → Ruling
ruling_of serves one = ruling_for serves (record_of one.octets) one.kept

-- its transaction number, and what the gate is asked for it
abbrev pub turn_of : Serving → Datagram → Turned
turn_of serves one =
    record { xid = xid_of (record_of one.octets); asked = (ruling_of serves one).asked }

-- a reply as datagrams: one, or none
abbrev pub reply_list : Option (List ℕ) → List (List ℕ)
reply_list None = []
reply_list (Some octets) = octets ∷ []

-- its reply
abbrev pub replies_of : Serving → Datagram → List (List ℕ)
replies_of serves one = reply_list (ruling_of serves one).reply

-- the datagrams that came in these waits
abbrev pub came : List (Option (List ℕ)) → List (List ℕ)
came [] = []
came (None ∷ waits) = came waits
came (Some octets ∷ waits) = octets ∷ came waits

-- one answer was kept of each datagram, nothing is kept that wasn't asked, and the gate was asked
-- what is due to each, in order, under its transaction number
pub record Course {S : Type 0} (Answers : S → Asked Admitted → S → Type 0) (serves : Serving)
    (old new : AgainOf S)
    (kept : List Kept) (all : List Datagram) : Type 0 where
  pub each : kept ≡ map (λ one. one.kept) all
  pub exact : AllByRecursion (λ one. IsExact serves (record_of one.octets) one.kept) all
  pub turns : Turning Answers old (map (turn_of serves) all) new

-- over a post that tells its datagrams: so many waits passed, in which these came, and the replies
-- to the answered ones were sent, in order
pub record Told {P : Type 0} (post : posts.Ghosts P) (serves : Serving) (old new : P)
    (Many : ℕ → Type 0) (all answered : List Datagram) : Type 0 where
  pub waits : List (Option (List ℕ))
  pub many : Many (length waits)
  pub are : came waits ≡ map (λ one. one.octets) all
  pub heard : post.heard new ≡ post.heard old ++ waits
  pub sent : post.sent new ≡ post.sent old ++ flat_map (replies_of serves) answered

-- datagrams were answered, a rule decided each, and its reply was sent; perhaps one more was
-- answered, whose reply wasn't sent
pub record Serves {P S : Type 0} (post : posts.Ghosts P) (gate : gates.Ghosts S) (serves : Serving)
    (old new : P) (gate_old gate_new : AgainOf S) (Many : ℕ → Type 0) (Unsent : Ruling → Type 0)
    (kept : List Kept) : Type 0 where
  pub answered : List Datagram
  pub last : List Datagram
  pub course : Course gate.answers serves gate_old gate_new kept (answered ++ last)
  pub decided : AllByRecursion (λ one. IsDecided (ruling_of serves one)) answered
  pub few : length last ≤ 1
  pub unsent : AllByRecursion (λ one. Unsent (ruling_of serves one)) last
  pub told : IsTrue (post.tells old)
      → Told post serves old new Many (answered ++ last) answered

-- how many waits there were, of so many: all, unless it broke off
abbrev pub Waited : ℕ → ServeEnd → ℕ → Type 0
Waited most ends.Done count = count ≡ most
Waited most ends.PostFault count = count ≤ most
Waited most ends.NoMemory count = count ≤ most

-- the ruling of a record whose reply wasn't sent: there is none such, unless the post failed, or
-- memory was wanted where it may be
abbrev pub Unsent : ServeEnd → Ruling → Type 0
Unsent ends.Done ruling = ⊥
Unsent ends.PostFault ruling = IsDecided ruling
Unsent ends.NoMemory ruling = Wanted ruling

-- so many times a datagram was waited for, unless it broke off
abbrev pub DatagramsServed : {P S : Type 0} → posts.Ghosts P → gates.Ghosts S → Serving → ℕ → P
    → P → AgainOf S → AgainOf S → ServeEnd → List Kept → Type 0
DatagramsServed post gate serves most old new gate_old gate_new end kept =
    Serves post gate serves old new gate_old gate_new (Waited most end) (Unsent end) kept

-- a post tells as before, counts no fewer faults, and one more where it failed
pub record PostLeft {P : Type 0} (post : posts.Ghosts P) (old new : P) (end : ServeEnd) : Type 0
  where
    pub tells : post.tells new ≡ post.tells old
    pub faults : post.faults old ≤ post.faults new
    pub fault : end ≡ ends.PostFault → Rose (post.faults old) (post.faults new)

-- ---- one record

-- a reply was sent, where there is one; at a fault and at want of memory it wasn't
abbrev pub Responds : List (List ℕ) → List (List ℕ) → Ruling → ServeEnd → Type 0
Responds old new ruling ends.Done = new ≡ old ++ reply_list ruling.reply
Responds old new ruling ends.PostFault = new ≡ old
Responds old new ruling ends.NoMemory = new ≡ old

-- the ruling of a record whose reply was sent, or wasn't
abbrev pub Ruled : ServeEnd → Ruling → Type 0
Ruled ends.Done ruling = IsDecided ruling
Ruled ends.PostFault ruling = IsDecided ruling
Ruled ends.NoMemory ruling = Wanted ruling

-- a record was answered: one answer was kept, and the gate was asked what is due; over a post that
-- tells, nothing was heard, and its reply was sent, or wasn't
pub record OneAnswered {P S : Type 0} (post : posts.Ghosts P) (gate : gates.Ghosts S)
    (serves : Serving)
    (old new : P) (gate_old gate_new : AgainOf S) (octets : List ℕ) (end : ServeEnd)
    (kept : List Kept) : Type 0 where
  pub one : Kept
  pub only : kept ≡ one ∷ []
  pub exact : IsExact serves octets one
  pub ruled : Ruled end (ruling_for serves octets one)
  pub turns : Turning gate.answers gate_old
      ((record { xid = xid_of octets; asked = (ruling_for serves octets one).asked }) ∷ []) gate_new
  pub heard : IsTrue (post.tells old) → post.heard new ≡ post.heard old
  pub sent : IsTrue (post.tells old)
      → Responds (post.sent old) (post.sent new) (ruling_for serves octets one) end
