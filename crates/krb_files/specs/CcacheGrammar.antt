-- The grammar of credential caches.
use Rattle.std.specs.Prelude.{◌≡◌, ℕ, zero, suc, List, [], ◌∷◌}
use Rattle.gss_base.specs.Name.{Name}
use Rattle.krb_files.specs.declared.pieces.Next.{Next}
use Rattle.krb_files.specs.Granted.{Kept, Cache}
use Rattle.krb_files.specs.Ccache.{kept_of}
use Rattle.krb_files.specs.Grammar.{Then, Gives, Number, Counted, Passed, Principal, KeyField, Body}

-- a principal behind the type of its name
abbrev pub CacheName : Name → List ℕ → Type 0
CacheName = Then (Number 4) (λ kind. Principal 4)

-- an address, or an entry of authorization data: a type of 16 bits, then octets
abbrev pub Typed : Unit {0} → List ℕ → Type 0
Typed = Then (Number 2) (λ kind. Then (Counted 4) (λ octets. Gives tt))

-- so many addresses, or entries of authorization data
abbrev pub TimesTyped : ℕ → Unit {0} → List ℕ → Type 0
TimesTyped zero = Gives tt
TimesTyped (suc n) = Then Typed (λ one. TimesTyped n)

-- addresses or authorization data, behind their count
abbrev pub TypedList : Unit {0} → List ℕ → Type 0
TypedList = Then (Number 4) TimesTyped

-- the third of four times is the ticket's end; one octet and the flags stand behind them
abbrev pub EndField : ℕ → List ℕ → Type 0
EndField = Then (Passed 8) (λ before. Then (Number 4) (λ ends. Then (Passed 9)
    (λ behind. Gives ends)))

-- addresses, authorization data, the ticket, a second ticket
abbrev pub TicketField : List ℕ → List ℕ → Type 0
TicketField = Then TypedList (λ addresses. Then TypedList (λ authorization. Then (Counted 4)
    (λ ticket. Then (Counted 4) (λ second. Gives ticket))))

-- a credential: the client, the server, the key, the end, the ticket; whether it is one to keep is
-- told by its key and its ticket
abbrev pub Credential : Next Kept → List ℕ → Type 0
Credential = Then CacheName (λ client. Then CacheName (λ server. Then (KeyField 4)
    (λ key. Then EndField (λ ends. Then TicketField
    (λ ticket. Gives (kept_of client server key ends ticket))))))

-- the end of the file
abbrev pub NoOctets : List ℕ → Type 0
NoOctets octets = octets ≡ []

-- what stands behind the owner
pub record Credentials (owner : Name) (cache : Cache) (octets : List ℕ) : Type 0 where
  pub spells : Body Credential NoOctets cache.credentials octets
  pub owned : cache.owner ≡ owner

-- `05 04`, a header, the owner, credentials up to the end
pub record SpellsCcache (cache : Cache) (octets : List ℕ) : Type 0 where
  pub body : List ℕ
  pub spells : Then (Counted 2) (λ header. Then CacheName Credentials) cache body
  pub same : octets ≡ 5 ∷ 4 ∷ body
