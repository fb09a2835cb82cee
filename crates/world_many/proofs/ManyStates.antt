-- Where each exchange of a run of many stands: what is on its way, and what both ends wait for.
use Rattle.std.proofs.Common.{◌≡◌, ◌≢◌, ◌⊎◌, inl, inr, ℕ, ◌+◌, ◌<◌, ◌≤◌, ◌^◌, refl, sym, ◌∙◌, subst, List, [], ◌∷◌, ◌++◌, length, slice_get, slice_set, Option, Some, None, Ok}
use Rattle.rpc_msgs.specs.Replies.{reply_octets}
use Rattle.scram_mech.specs.MechMaking.{MechMaking, AmongMakings}
use Rattle.spnego_core.specs.declared.accept_end.AcceptEnd.{AcceptEnd}
use Rattle.spnego_core.specs.declared.outcome.Outcome.{Outcome}
use Rattle.spnego_core.specs.Accepting.{Fixed}
use Rattle.spnego_core.specs.Ends.{PlainSetup, EndSays}
use Rattle.spnego_core.specs.EndSteps as init_steps
use Rattle.spnego_core.specs.Initiating.{Started, init_start}
use Rattle.accept_core.specs.History.{opened}
use Rattle.pair_laws.proofs.Granting.{granting, going}
use Rattle.pair_laws.proofs.Settling.{Negotiates, ComesTo}
use Rattle.world_laws.specs.Stages as stages
use Rattle.world_laws.specs.Lanes.{context_with}
use Rattle.world_laws.specs.Premises.{Listed, WasSettled}
use Rattle.world_laws.specs.State.{World}
use Rattle.world_laws.proofs.Growing.{Grows, makings-grow, listed-grows, settled-grows}
use Rattle.world_laws.proofs.Slices.{set-cases}
use Rattle.world_runs.specs.Served.{told_width, served}
use Rattle.world_runs.proofs.MetEvents.{call_of}
use Rattle.world_runs.proofs.MetPairs.{Honest, setting_with}
use Rattle.world_runs.proofs.MetRounds.{Setting, Took, Rounds}
use Rattle.world_many.specs.Carried.{OnWay, Nowhere, Out, Back, Line, Plan}

-- an initiator with a plan
pub record Pair (old : World) (now : ℕ) (plans : List Plan) (i : ℕ) : Type 0 where
  pub own : PlainSetup
  pub plan : Plan
  pub started : Started
  pub begins : init_start own ≡ Ok started
  pub short : length started.token ≤ 65536
  pub few : length plan.draws ≤ 4
  pub honest : Honest old.book own plan.kind now plan.draws started

abbrev pub setting_of : {old : World} {now : ℕ} {plans : List Plan} {i : ℕ} → Pair old now plans i → Setting
setting_of {old} {now} p = setting_with old.book p.own now p.honest.marking

-- what was fixed of the context of this id stands in the world
pub record Fixes (w : World) (id : Option ℕ) (f : Fixed) : Type 0 where
  pub n : ℕ
  pub is : id ≡ Some n
  pub listed : Listed w.fixed (context_with n f)

-- a record is on its way out
pub record Asking (x : Setting) (w : World) (i : ℕ) (draws : List (List ℕ)) (id : Option ℕ) (octets : List ℕ) : Type 0 where
  pub xid : ℕ
  pub end : AcceptEnd
  pub initiator : EndSays
  pub token : List ℕ
  pub made : List MechMaking
  pub fixed : List Fixed
  pub outcome : Outcome
  pub stage : slice_get w.stages i ≡ Some (stages.Asks xid initiator)
  pub is : octets ≡ call_of xid id token
  pub comes : ComesTo id w.book.core end
  pub xids : xid + length draws < 2 ^ 32
  pub rounds : Rounds x draws end initiator token made fixed outcome
  pub short : length token ≤ 65536
  pub there : (m : MechMaking) → AmongMakings made m → AmongMakings w.makings m
  pub fixes : (f : Fixed) → fixed ≡ f ∷ [] → Fixes w id f

-- a reply is on its way back, after which both go on
pub record GoesOn (x : Setting) (w : World) (i : ℕ) (draws : List (List ℕ)) (id : Option ℕ) (octets : List ℕ) : Type 0 where
  pub n : ℕ
  pub id_is : id ≡ Some n
  pub xid : ℕ
  pub initiator : EndSays
  pub reply : List ℕ
  pub made : List MechMaking
  pub fixed : List Fixed
  pub outcome : Outcome
  pub took : Took initiator reply made
  pub next : EndSays
  pub further : List ℕ
  pub more : took.initiated.step ≡ init_steps.More next further
  pub short : length further ≤ 65536
  pub size : length reply ≤ 65536
  pub after : AcceptEnd
  pub stage : slice_get w.stages i ≡ Some (stages.Asks xid initiator)
  pub is : octets ≡ reply_octets (going xid n reply)
  pub waits : Negotiates n w.book.core after
  pub xids : xid + 1 + length draws < 2 ^ 32
  pub rounds : Rounds x draws after next further (made ++ took.initiated.makes) fixed outcome
  pub there : (m : MechMaking) → AmongMakings made m → AmongMakings w.makings m
  pub fixes : (f : Fixed) → fixed ≡ f ∷ [] → Fixes w id f

-- the last reply is on its way back
pub record IsLast (w : World) (i : ℕ) (octets : List ℕ) : Type 0 where
  pub n : ℕ
  pub xid : ℕ
  pub initiator : EndSays
  pub reply : List ℕ
  pub made : List MechMaking
  pub outcome : Outcome
  pub took : Took initiator reply made
  pub done : took.initiated.step ≡ init_steps.Done outcome
  pub size : length reply ≤ 65536
  pub stage : slice_get w.stages i ≡ Some (stages.Asks xid initiator)
  pub is : octets ≡ reply_octets (granting xid outcome n told_width reply)
  pub xid_fits : xid < 2 ^ 32
  pub there : (m : MechMaking) → AmongMakings made m → AmongMakings w.makings m
  pub context : Fixed
  pub outcome_is : context.outcome ≡ outcome
  pub listed : Listed w.fixed (context_with n context)
  pub settled : WasSettled w.book.core.history n

-- nothing is on its way: if the initiator wasn't started, it can start
abbrev pub MayStart : {old : World} {now : ℕ} {plans : List Plan} {i : ℕ} → Pair old now plans i → World → List (List ℕ) → Option ℕ → Type 0
MayStart {old} {now} {plans} {i} p w draws id = (own : PlainSetup) → slice_get w.stages i ≡ Some (stages.Ready own) → (own ≡ p.own) × (draws ≡ p.plan.draws) × (id ≡ None)

abbrev pub StandsBy : {old : World} {now : ℕ} {plans : List Plan} {i : ℕ} → Pair old now plans i → World → List (List ℕ) → Option ℕ → OnWay → Type 0
StandsBy {old} {now} {plans} {i} p w draws id Nowhere = MayStart p w draws id
StandsBy {old} {now} {plans} {i} p w draws id (Out octets) = Asking (setting_of p) w i draws id octets
StandsBy {old} {now} {plans} {i} p w draws id (Back octets) = GoesOn (setting_of p) w i draws id octets ⊎ IsLast w i octets

-- an initiator's line, with its context's id
pub record Placed (old : World) (now : ℕ) (plans : List Plan) (w : World) (i : ℕ) (line : Line) (ids : List (Option ℕ)) : Type 0 where
  pub pair : Pair old now plans i
  pub id : Option ℕ
  pub there : slice_get ids i ≡ Some id
  pub stands : StandsBy pair w line.draws id line.way

pub record Carrying (old : World) (now : ℕ) (plans : List Plan) (w : World) (lines : List Line) (ids : List (Option ℕ)) : Type 0 where
  pub setup : w.book.setup ≡ old.book.setup
  pub serves : w.serves ≡ served
  pub states : (i : ℕ) (line : Line) → slice_get lines i ≡ Some line → Placed old now plans w i line ids
  pub apart : (i j n : ℕ) → slice_get ids i ≡ Some (Some n) → slice_get ids j ≡ Some (Some n) → i ≡ j
  pub counted : (i n : ℕ) → slice_get ids i ≡ Some (Some n) → n ≤ opened w.book.core.history

-- ---- what an event of another leaves

pub record Keeps (w new : World) (j : ℕ) (id : Option ℕ) : Type 0 where
  pub stage : slice_get new.stages j ≡ slice_get w.stages j
  pub waits : (n : ℕ) (end : AcceptEnd) → id ≡ Some n → Negotiates n w.book.core end → Negotiates n new.book.core end
  pub grows : Grows w new

keeps-comes : (w new : World) (j : ℕ) (id : Option ℕ) (end : AcceptEnd) → ((n : ℕ) (end : AcceptEnd) → id ≡ Some n → Negotiates n w.book.core end → Negotiates n new.book.core end) → ComesTo id w.book.core end → ComesTo id new.book.core end
keeps-comes w new j None end waits comes = comes
keeps-comes w new j (Some n) end waits comes = waits n end refl comes

fixes-on : (w new : World) (id : Option ℕ) (f : Fixed) → Grows w new → Fixes w id f → Fixes new id f
fixes-on w new id f g k = record { n = k.n; is = k.is; listed = listed-grows w new (context_with k.n f) g k.listed }

keeps-asking : (x : Setting) (w new : World) (j : ℕ) (draws : List (List ℕ)) (id : Option ℕ) (octets : List ℕ) → Keeps w new j id → Asking x w j draws id octets → Asking x new j draws id octets
keeps-asking x w new j draws id octets k a = record {
  xid = a.xid;
  end = a.end;
  initiator = a.initiator;
  token = a.token;
  made = a.made;
  fixed = a.fixed;
  outcome = a.outcome;
  stage = k.stage ∙ a.stage;
  is = a.is;
  comes = keeps-comes w new j id a.end k.waits a.comes;
  xids = a.xids;
  rounds = a.rounds;
  short = a.short;
  there = λ m among. makings-grow w new m k.grows (a.there m among);
  fixes = λ f e. fixes-on w new id f k.grows (a.fixes f e);
}

keeps-going : (x : Setting) (w new : World) (j : ℕ) (draws : List (List ℕ)) (id : Option ℕ) (octets : List ℕ) → Keeps w new j id → GoesOn x w j draws id octets → GoesOn x new j draws id octets
keeps-going x w new j draws id octets k a = record {
  n = a.n;
  id_is = a.id_is;
  xid = a.xid;
  initiator = a.initiator;
  reply = a.reply;
  made = a.made;
  fixed = a.fixed;
  outcome = a.outcome;
  took = a.took;
  next = a.next;
  further = a.further;
  more = a.more;
  short = a.short;
  size = a.size;
  after = a.after;
  stage = k.stage ∙ a.stage;
  is = a.is;
  waits = k.waits a.n a.after a.id_is a.waits;
  xids = a.xids;
  rounds = a.rounds;
  there = λ m among. makings-grow w new m k.grows (a.there m among);
  fixes = λ f e. fixes-on w new id f k.grows (a.fixes f e);
}

keeps-last : (w new : World) (j : ℕ) (id : Option ℕ) (octets : List ℕ) → Keeps w new j id → IsLast w j octets → IsLast new j octets
keeps-last w new j id octets k a = record {
  n = a.n;
  xid = a.xid;
  initiator = a.initiator;
  reply = a.reply;
  made = a.made;
  outcome = a.outcome;
  took = a.took;
  done = a.done;
  size = a.size;
  stage = k.stage ∙ a.stage;
  is = a.is;
  xid_fits = a.xid_fits;
  there = λ m among. makings-grow w new m k.grows (a.there m among);
  context = a.context;
  outcome_is = a.outcome_is;
  listed = listed-grows w new (context_with a.n a.context) k.grows a.listed;
  settled = settled-grows w new a.n k.grows a.settled;
}

keeps-stands : (old : World) (now : ℕ) (plans : List Plan) (j : ℕ) (p : Pair old now plans j) (w new : World) (draws : List (List ℕ)) (id : Option ℕ) (way : OnWay) → Keeps w new j id → StandsBy p w draws id way → StandsBy p new draws id way
keeps-stands old now plans j p w new draws id Nowhere k s = λ own e. s own (sym k.stage ∙ e)
keeps-stands old now plans j p w new draws id (Out octets) k s = keeps-asking (setting_of p) w new j draws id octets k s
keeps-stands old now plans j p w new draws id (Back octets) k (inl s) = inl (keeps-going (setting_of p) w new j draws id octets k s)
keeps-stands old now plans j p w new draws id (Back octets) k (inr s) = inr (keeps-last w new j id octets k s)

-- ---- one event more

-- what an event of this initiator leads to
pub record Turned (old : World) (now : ℕ) (plans : List Plan) (w new : World) (i : ℕ) (line : Line) (ids next : List (Option ℕ)) : Type 0 where
  pub setup : new.book.setup ≡ w.book.setup
  pub serves : new.serves ≡ w.serves
  pub own : Placed old now plans new i line next
  pub others : (j : ℕ) (id : Option ℕ) → i ≢ j → slice_get ids j ≡ Some id → (slice_get next j ≡ Some id) × Keeps w new j id
  pub apart : (i j n : ℕ) → slice_get next i ≡ Some (Some n) → slice_get next j ≡ Some (Some n) → i ≡ j
  pub counted : (i n : ℕ) → slice_get next i ≡ Some (Some n) → n ≤ opened new.book.core.history

pub carry-on : (old : World) (now : ℕ) (plans : List Plan) (w new : World) (lines : List Line) (ids next : List (Option ℕ)) (i : ℕ) (line : Line) → Carrying old now plans w lines ids → Turned old now plans w new i line ids next
    → Carrying old now plans new (slice_set lines i line) next
carry-on old now plans w new lines ids next i line k t = record {
  setup = t.setup ∙ k.setup;
  serves = t.serves ∙ k.serves;
  states = λ j other there. elim (set-cases lines i j line other there) [
    | inl here ↦ subst (λ (z : Line). Placed old now plans new j z next) (sym here.1) (subst (λ (m : ℕ). Placed old now plans new m line next) here.0 t.own)
    | inr elsewhere ↦ kept j other (k.states j other elsewhere.1) elsewhere.0
  ];
  apart = t.apart;
  counted = t.counted;
}
  where
    kept : (j : ℕ) (other : Line) → Placed old now plans w j other ids → i ≢ j → Placed old now plans new j other next
    kept j other p ne =
        let o = t.others j p.id ne p.there in
        record { pair = p.pair; id = p.id; there = o.0; stands = keeps-stands old now plans j p.pair w new other.draws p.id other.way o.1 p.stands }
