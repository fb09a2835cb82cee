-- What a part of a talk did over a link that tells its octets.
use Rattle.std.specs.Prelude.{◌≡◌, ◌≢◌, ◌≤◌, ℕ, List, ◌++◌, length, Result, Ok, Err}
use Rattle.sec_base.specs.Link.{Wire}
use Rattle.gss_client.specs.declared.refusal.ClientRefusal.{ClientRefusal}
use Rattle.gss_client.specs.declared.refusal.ClientRefusal.TheVariants.{LinkFault, NoMemory}
use Rattle.gss_client.specs.Creation.{OfferOf, CreatedOf}
use Rattle.gss_client.specs.Creation as created
use Rattle.gss_client.specs.Talking.{Talking, said}

-- `took` was taken, of what was there or came meanwhile, and `wrote` was written
pub record Went (old new : Wire) (took wrote : List ℕ) : Type 0 where
  pub taken : new.taken ≡ old.taken ++ took
  pub coming : (more : List ℕ) × (old.coming ++ more ≡ took ++ new.coming)
  pub written : new.written ≡ old.written ++ wrote

-- the part came to its end: whatever follows the octets that were taken, it writes these octets and
-- gives this value
pub record Done {A : Type 0} (part : Talking A) (old new : Wire) (value : A) : Type 0 where
  pub took : List ℕ
  pub wrote : List ℕ
  pub went : Went old new took wrote
  pub whole : (later : List ℕ) → part (took ++ later) ≡ said wrote (Ok value) later

-- the part was refused, as it is by what was taken and what is still to come; after a fault of the
-- link or want of memory a front of what it writes there was written
pub record Stopped {A : Type 0} (part : Talking A) (old new : Wire) (refusal : ClientRefusal) : Type
    0 where
  pub took : List ℕ
  pub wrote : List ℕ
  pub went : Went old new took wrote
  pub front : (more : List ℕ) × ((part (took ++ new.coming)).written ≡ wrote ++ more)
  pub whole : refusal ≢ LinkFault → refusal ≢ NoMemory → wrote ≡ (part (took ++ new.coming)).written
  pub cause : refusal ≢ LinkFault → refusal ≢ NoMemory
      → (part (took ++ new.coming)).answer ≡ Err refusal

-- what a part of a talk did over a link: it came to its end, or was refused
abbrev pub Talks : {A : Type 0} → Talking A → Wire → Wire → Result A ClientRefusal → Type 0
Talks part old new (Ok value) = Done part old new value
Talks part old new (Err refusal) = Stopped part old new refusal

-- ---- sizes

-- a handle leaves room in a credential
abbrev pub IsHandle : List ℕ → Type 0
IsHandle handle = length handle ≤ 64

-- a handle and a token for which a creation call has room
pub record FitsOffer {E : Type 0} (offer : OfferOf E) : Type 0 where
  pub handle : IsHandle offer.handle
  pub token : length offer.token ≤ 65536

-- the same of what a reply leads to: a further offer, or the handle of a context that stands
abbrev pub FitsCreated : {E : Type 0} → CreatedOf E → Type 0
FitsCreated (created.Going offer) = FitsOffer offer
FitsCreated (created.Stands outcome handle) = IsHandle handle
