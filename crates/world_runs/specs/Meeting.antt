-- That the premises can be met: one exchange by either mechanism, with or without the list's MICs
-- and after a switch, whose records are carried as they are, and one call after it.
use Rattle.std.specs.Prelude.{◌≡◌, ℕ, ◌+◌, ◌*◌, ◌<◌, ◌≤◌, ◌^◌, max, List, [], ◌∷◌}
use Rattle.std.specs.Prelude.{length, map, replicate, slice_get, take, Some, None}
use Rattle.sha1.specs.Sha1.{sha1}
use Rattle.gss_base.specs.declared.mech.MechKind.{MechKind}
use Rattle.krb_msgs.specs.declared.enc_ticket_part.EncTicketPart.{EncTicketPart}
use Rattle.ap_exchange.specs.Judging.{judged_mark}
use Rattle.ap_exchange.specs.Laws.{honest_judged}
use Rattle.replay_cache.specs.Taking.{cache_verdict}
use Rattle.replay_cache.specs.declared.cache.CacheVerdict.TheVariants.{Taken}
use Rattle.scram_mech.specs.declared.verifiers.Verifier.{Verifier}
use Rattle.scram_mech.specs.Secrets.{stored_key}
use Rattle.spnego_core.specs.declared.outcome.Outcome.{Outcome}
use Rattle.spnego_core.specs.declared.setup.MechCred.{MechCred}
use Rattle.spnego_core.specs.declared.setup.MechCred.TheVariants as creds
use Rattle.spnego_core.specs.Ends.{PlainSetup}
use Rattle.spnego_core.specs.Exchange.{Occasion, HonestPair}
use Rattle.context_table.specs.Places.{live_of}
use Rattle.accept_core.specs.declared.entry.Entry.TheVariants.{Call}
use Rattle.accept_book.specs.Booking.{BookOf, names_of}
use Rattle.accept_core.specs.History.{Whole, standing, numbers, entry_at, taken_of}
use Rattle.accept_book.specs.RecordShown.{handle_of}
use Rattle.gss_client.specs.Talk.{begun}
use Rattle.world_laws.specs.Stages as stages
use Rattle.world_laws.specs.Events.{Run, Begins}
use Rattle.world_laws.specs.KnownList.{NoForgedList}
use Rattle.world_laws.specs.Premises.{Marking, Listed, GuardedBasis, OnGuarded, WasSettled}
use Rattle.world_laws.specs.Premises.{NoForgery, Fresh, Completed as CompletedWith}
use Rattle.world_runs.specs.Showing.{Shown, Shows}
use Rattle.world_laws.specs.State.{Context, World}
use Rattle.world_runs.specs.Served.{served, own_terms}

-- a world before its first event, of this book without entries and so many lanes
pub record AtStart (shown : Shown) (book : BookOf) (lanes : ℕ) : Type 0 where
  pub ready : shown.stages ≡ map stages.Ready shown.facts
  pub book_is : shown.book ≡ Some book
  pub empty : book.core.history ≡ []
  pub idle : shown.lanes ≡ replicate lanes None
  pub nothing : shown.events ≡ []

-- the acceptor takes each token at this moment, with the first 66 of these octets drawn for it
abbrev pub occasions_at : ℕ → List (List ℕ) → List Occasion
occasions_at now draws = map (λ octets. record { now = now; drawn = take 66 octets }) draws

-- what the acceptor has for a credential beside the facts that fit: for a request by Kerberos, a
-- place for its mark, which isn't stale; of a user of SCRAM, no line by another password
abbrev pub ReadyFor : BookOf → PlainSetup → ℕ → MechCred → Type 0
ReadyFor book own now (creds.Kerberos name credential) = (part : EncTicketPart)
    → cache_verdict book.core.cache.capacity (max book.core.cache.greatest now)
    (taken_of book.core.history)
    (judged_mark (honest_judged credential own.stamp own.bindings part)) ≡ Taken
ReadyFor book own now (creds.Scram user password) = (line : Verifier)
    → Listed book.setup.verifiers line → line.name ≡ user → line.stored
    ≡ stored_key (record { password = password; salt = line.salt; rounds = line.rounds })

-- what it begins with: one initiator, which makes an honest pair with the acceptor by the mechanism
-- that this chooses, with draws for each token; and there is room: a lane, a place in the book's
-- table, and in its log four places for one token, and two for each further one
pub record Meeting (book : BookOf) (initiators : List PlainSetup) (lanes now : ℕ)
    (draws : List (List ℕ)) : Type 0 where
  pub own : PlainSetup
  pub one : initiators ≡ own ∷ []
  pub kind : MechKind
  pub pair : HonestPair book.setup own kind (occasions_at now draws)
  pub ready : ReadyFor book own now pair.cred
  pub lane : 0 < lanes
  pub log : length book.core.history + 2 + 2 * length draws ≤ book.core.limit
  pub table : live_of book.core.table < book.core.table.limit

-- a run that meets the premises, and in which both ends completed on a guarded key, with one
-- outcome, and the log says that the context was settled
pub record IsMet (shown : Shown) : Type 0 where
  pub marking : Marking
  pub start : World
  pub now : World
  pub run : Run start shown.events now
  pub begins : Begins start
  pub shows : Shows now shown
  pub unforged : NoForgery marking start shown.events now run
  pub fresh : Fresh marking now
  pub own : PlainSetup
  pub outcome : Outcome
  pub completed : CompletedWith now 0 own outcome
  pub guarded : OnGuarded marking own outcome.mech
  pub context : Context
  pub listed : Listed now.fixed context
  pub on : GuardedBasis marking context.fixed.basis
  pub agree : context.fixed.outcome ≡ outcome
  pub settled : WasSettled now.book.core.history context.id

-- how a world of one initiator stands after an exchange: nothing is in hand, and the initiator's
-- session stands, whose first call has number 1, on the one context that was fixed, the book's
-- first; the log has it complete and no call of it, and has a place
pub record Rests (w : World) (own : PlainSetup) (outcome : Outcome) (context : Context) : Type 0
  where
    pub serves : w.serves ≡ served
    pub facts : w.facts ≡ own ∷ []
    pub xid : ℕ
    pub xid_fits : xid < 2 ^ 32
    pub stands : w.stages
        ≡ stages.Stands (begun own_terms 1 xid outcome (handle_of context.id)) ∷ []
    pub idle : slice_get w.lanes 0 ≡ Some None
    pub fixed : w.fixed ≡ context ∷ []
    pub first : context.id ≡ 1
    pub whole : standing context.id w.book.core.history
        ≡ Whole outcome.mech (names_of outcome) context.fixed.lasts
    pub uncalled : numbers context.id w.book.core.history ≡ []
    pub place : length w.book.core.history < w.book.core.limit

-- such a run, by this mechanism, after which the world stands so; and it meets what the law of an
-- acceptor's list asks beside these premises
pub record IsCarried (shown : Shown) (kind : MechKind) : Type 0 where
  pub met : IsMet shown
  pub unforged_list : NoForgedList met.marking met.now met.start shown.events met.now met.run
  pub mech : met.outcome.mech ≡ kind
  pub rests : Rests met.now met.own met.outcome met.context

-- ---- one call after it

-- a moment that isn't behind the end of a context that the log has complete
abbrev pub InTime : Shown → ℕ → Type 0
InTime shown now = (book : BookOf) (id ends : ℕ) (mech : MechKind) (names : List ℕ)
    → shown.book ≡ Some book → standing id book.core.history ≡ Whole mech names ends → now ≤ ends

-- a run that meets the premises, and in which a call of the context that was settled stands in the
-- log, with its first number, its procedure and its arguments' SHA-1
pub record IsCalled (shown : Shown) (procedure : ℕ) (args : List ℕ) : Type 0 where
  pub met : IsMet shown
  pub place : ℕ
  pub called : entry_at place met.now.book.core.history
      ≡ Some (Call met.context.id 1 procedure (sha1 args))
