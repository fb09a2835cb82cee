-- An honest exchange completes.
use Rattle.std.proofs.Common.{◌≡◌, inl, inr, ℕ, ◌+◌, Bool, true, false, not, ◌&&◌, if◌then◌else◌, refl, sym, ap, ◌∙◌, subst, arith, List, [], ◌∷◌, length, map, Some, None, Result, Ok, Err}
use Rattle.std.specs.List.{AllByRecursion}
use Rattle.std.proofs.lemmas.Bool.{cases_Bool}
use Rattle.gss_base.specs.declared.mech.MechKind.{MechKind}
use Rattle.gss_base.specs.declared.mech.MechKind.TheVariants as kinds
use Rattle.gss_base.specs.declared.mech.KerberosName.{KerberosName}
use Rattle.gss_base.specs.declared.mech.KerberosName.TheVariants.{Standard, Microsoft}
use Rattle.krb_files.specs.Granted.{Granted}
use Rattle.ap_exchange.specs.Answer.{answer_done}
use Rattle.ap_exchange.specs.Laws.{honest_judged}
use Rattle.spnego_core.specs.declared.outcome.Outcome.{Outcome}
use Rattle.spnego_core.specs.declared.refusal.MechRefusal.{MechRefusal}
use Rattle.spnego_core.specs.declared.setup.AcceptSetup.{AcceptSetup}
use Rattle.spnego_core.specs.declared.setup.MechCred.{MechCred}
use Rattle.spnego_core.specs.declared.setup.MechCred.TheVariants as creds
use Rattle.spnego_core.specs.declared.accept_end.AcceptEnd.{AcceptEnd}
use Rattle.spnego_core.specs.declared.accept_end.AcceptEnd.TheVariants as accepts
use Rattle.spnego_core.specs.declared.accept_end.Turn.{Turn}
use Rattle.spnego_core.specs.declared.accept_end.Turn.TheVariants.{First, Later}
use Rattle.spnego_core.specs.declared.accept_mech.AcceptMech.TheVariants as mechs
use Rattle.spnego_core.specs.MechStates as own_mechs
use Rattle.spnego_core.specs.Ends.{PlainSetup, EndSays}
use Rattle.spnego_core.specs.Ends as inits
use Rattle.spnego_core.specs.Outcome.{outcome_of}
use Rattle.spnego_core.specs.Choice.{same_kind, is_first, is_first_named, is_mic_due, best}
use Rattle.spnego_core.specs.Tokens.{init_octets, first_octets, resp_octets}
use Rattle.spnego_core.specs.AcceptMech.{accept_begun}
use Rattle.spnego_core.specs.InitMech.{kind_of, kinds_of, oid_listed, is_own, is_own_list, cred_for, MechBegun, init_begun}
use Rattle.spnego_core.specs.Sizes.{IsShort}
use Rattle.spnego_core.specs.Accepting as accepting
use Rattle.spnego_core.specs.Initiating as initiating
use Rattle.spnego_core.specs.Exchange.{Occasion, IsDone, Completes, BareFits, TicketFits, UserFits, Fitting, rounds_of, tokens_of, HonestPair, Agrees}
use Rattle.spnego_core.specs.Bare.{takes_bare}
use Rattle.spnego_core.proofs.InitSteps.{cred_for-kind}
use Rattle.spnego_core.proofs.Bares.{bare-list, takes-first}
use Rattle.spnego_core.proofs.Spelled.{token_short}
use Rattle.spnego_core.proofs.Turns.{MayCome, oid_on, end_at, chosen_on, Hears, hears_first, hears_later, hears_bare, waits, switches, texts, ends_all, ends_bare}
use Rattle.spnego_core.proofs.MechRounds.{request_begins, request-begins, request-ends, text_begins, text-begins, pairs, texts-go, proof-short, proof-ends}

begun_is : (a b : MechBegun) (r : Result MechBegun MechRefusal) → r ≡ Ok a → r ≡ Ok b → a ≡ b
begun_is a b r e f = let both : Ok a ≡ Ok b = sym e ∙ f in cc

-- ---- the chosen mechanism runs

-- both complete by this mechanism, with one outcome
record Runs (setup : AcceptSetup) (own : PlainSetup) (kind : MechKind) (due : Bool) (turn : Turn) (end : AcceptEnd) (octets : List ℕ) (begun : MechBegun) (occasions : List Occasion) : Type 0 where
  outcome : Outcome
  mech : outcome.mech ≡ kind
  completes : Completes setup occasions end (end_at turn own kind due begun.mech) octets outcome

abbrev rounds_due : MechKind → Bool → ℕ
rounds_due kind due = rounds_of kind + (if due then 1 else 0)

request_runs : (setup : AcceptSetup) (own : PlainSetup) (name : KerberosName) (credential : Granted) (due : Bool) (turn : Turn) (end : AcceptEnd) (octets : List ℕ) (begun : MechBegun) (occasion : Occasion) (rest : List Occasion)
    → (due ≡ false → is_first (kinds_of own.list) kinds.Kerberos ≡ true) → is_own own.list kinds.Kerberos ≡ true → MayCome turn own kinds.Kerberos → length own.draws ≡ 66 → init_begun own (creds.Kerberos name credential) ≡ Ok begun
    → Hears setup end octets turn (chosen_on own kinds.Kerberos due) mechs.Kerberos begun.token → length occasion.drawn ≡ 66 → TicketFits setup own credential occasion → length rest ≡ (if due then 1 else 0)
    → Runs setup own kinds.Kerberos due turn end octets begun (occasion ∷ rest)
request_runs setup own name credential due turn end octets begun occasion rest first is may draws begins hears drawn fits count =
    let same : begun ≡ request_begins own credential = begun_is begun (request_begins own credential) (init_begun own (creds.Kerberos name credential)) begins (request-begins setup own name credential occasion fits) in
    let heard : Hears setup end octets turn (chosen_on own kinds.Kerberos due) mechs.Kerberos (request_begins own credential).token = subst (λ (b : MechBegun). Hears setup end octets turn (chosen_on own kinds.Kerberos due) mechs.Kerberos b.token) same hears in
    let r = request-ends setup own credential occasion draws drawn fits in
    subst (λ (b : MechBegun). Runs setup own kinds.Kerberos due turn end octets b (occasion ∷ rest)) (sym same) (record {
      outcome = _;
      mech = refl;
      completes = ends_all setup own kinds.Kerberos due turn end octets mechs.Kerberos (request_begins own credential).mech (request_begins own credential).token _ occasion rest first is may heard r count;
    })

texts_run : (setup : AcceptSetup) (own : PlainSetup) (user password : List ℕ) (due : Bool) (turn : Turn) (end : AcceptEnd) (octets : List ℕ) (begun : MechBegun) (occasion next : Occasion) (rest : List Occasion)
    → (due ≡ false → is_first (kinds_of own.list) kinds.Scram ≡ true) → is_own own.list kinds.Scram ≡ true → MayCome turn own kinds.Scram → init_begun own (creds.Scram user password) ≡ Ok begun
    → Hears setup end octets turn (chosen_on own kinds.Scram due) mechs.Scram begun.token → UserFits setup own user password occasion → length rest ≡ (if due then 1 else 0)
    → Runs setup own kinds.Scram due turn end octets begun (occasion ∷ next ∷ rest)
texts_run setup own user password due turn end octets begun occasion next rest first is may begins hears fits count =
    let p = pairs setup own user password occasion next fits in
    let same : begun ≡ text_begins p.started = begun_is begun (text_begins p.started) (init_begun own (creds.Scram user password)) begins (text-begins own user password p.started p.starts) in
    let heard : Hears setup end octets turn (chosen_on own kinds.Scram due) mechs.Scram (text_begins p.started).token = subst (λ (b : MechBegun). Hears setup end octets turn (chosen_on own kinds.Scram due) mechs.Scram b.token) same hears in
    let r = texts-go setup own user password occasion next fits p in
    let l = proof-ends setup own user password occasion next p in
    let again = hears_later setup (chosen_on own kinds.Scram due) (mechs.Proof p.taken.end) p.proved.token (token_short p.proved.token (proof-short setup own user password occasion next fits p)) in
    let proof : List ℕ = resp_octets (initiating.token_sent p.proved.token) in
    let waiting : AcceptEnd = accepts.Runs (record { chosen = chosen_on own kinds.Scram due; mech = mechs.Proof p.taken.end }) in
    let outcome : Outcome = outcome_of kinds.Scram p.accepted.done in
    let last = ends_all setup own kinds.Scram due Later waiting proof (mechs.Proof p.taken.end) (own_mechs.Proof p.proved.end) p.proved.token outcome next rest first is tt again l count in
    subst (λ (b : MechBegun). Runs setup own kinds.Scram due turn end octets b (occasion ∷ next ∷ rest)) (sym same) (record {
      outcome = outcome;
      mech = refl;
      completes = texts setup own kinds.Scram due turn end octets mechs.Scram (text_begins p.started).mech (text_begins p.started).token (mechs.Proof p.taken.end) (own_mechs.Proof p.proved.end) p.proved.token outcome occasion next rest is may heard r last;
    })

-- the chosen mechanism by its credential
runs : (setup : AcceptSetup) (own : PlainSetup) (cred : MechCred) (due : Bool) (turn : Turn) (end : AcceptEnd) (octets : List ℕ) (begun : MechBegun) (occasions : List Occasion)
    → (due ≡ false → is_first (kinds_of own.list) (kind_of cred) ≡ true) → is_own own.list (kind_of cred) ≡ true → MayCome turn own (kind_of cred) → length own.draws ≡ 66 → init_begun own cred ≡ Ok begun
    → Hears setup end octets turn (chosen_on own (kind_of cred) due) (accept_begun (kind_of cred)) begun.token → AllByRecursion (Fitting setup own cred) occasions → length occasions ≡ rounds_due (kind_of cred) due
    → Runs setup own (kind_of cred) due turn end octets begun occasions
runs setup own (creds.Kerberos name credential) due turn end octets begun [] first is may draws begins hears fits count = absurd (omega (arith, count))
runs setup own (creds.Kerberos name credential) due turn end octets begun (occasion ∷ rest) first is may draws begins hears fits count =
    request_runs setup own name credential due turn end octets begun occasion rest first is may draws begins hears fits.0.drawn fits.0.facts (omega (arith, count))
runs setup own (creds.Scram user password) due turn end octets begun [] first is may draws begins hears fits count = absurd (omega (arith, count))
runs setup own (creds.Scram user password) due turn end octets begun (only ∷ []) first is may draws begins hears fits count = absurd (omega (arith, count))
runs setup own (creds.Scram user password) due turn end octets begun (occasion ∷ next ∷ rest) first is may draws begins hears fits count =
    texts_run setup own user password due turn end octets begun occasion next rest first is may begins hears fits.0.facts (omega (arith, count))

-- ---- the own list

same_kind-self : (a : MechKind) → same_kind a a ≡ true
same_kind-self kinds.Kerberos = refl
same_kind-self kinds.Scram = refl

own_by : (b c : Bool) (list : List MechCred) (kind : MechKind) (first cred : MechCred) → same_kind (kind_of first) kind ≡ b → (cred_for list kind ≡ Some cred → is_own list kind ≡ true) → (if b then Some first else cred_for list kind) ≡ Some cred → is_own (first ∷ list) kind ≡ true
own_by true c list kind first cred e more found = rw e refl
own_by false c list kind first cred e more found = rw e (more found)

cred_for-own : (list : List MechCred) (kind : MechKind) (cred : MechCred) → cred_for list kind ≡ Some cred → is_own list kind ≡ true
cred_for-own [] kind cred e = cc
cred_for-own (first ∷ rest) kind cred e = own_by (same_kind (kind_of first) kind) true rest kind first cred refl (λ f. cred_for-own rest kind cred f) e

-- the first mechanism of the own list is that of its first identifier
first_named-is : (own : PlainSetup) (list : List MechCred) (kind : MechKind) → is_first_named (map oid_listed list) kind ≡ is_first (kinds_of list) kind
first_named-is own [] kind = refl
first_named-is own (creds.Kerberos Standard credential ∷ rest) kind = refl
first_named-is own (creds.Kerberos Microsoft credential ∷ rest) kind = refl
first_named-is own (creds.Scram user password ∷ rest) kind = refl

-- an end that sent its first token
pub record Opened (own : PlainSetup) (started : initiating.Started) : Type 0 where
  pub first : MechCred
  pub rest : List MechCred
  pub list : own.list ≡ first ∷ rest
  pub begun : MechBegun
  pub begins : init_begun own first ≡ Ok begun
  pub end : started.end ≡ inits.Opens (record { own = own; mech = begun.mech })
  pub token : started.token ≡ first_octets own.negotiates (initiating.first_sent own begun.token)

opened_by : (own : PlainSetup) (first : MechCred) (rest : List MechCred) (started : initiating.Started) (r : Result MechBegun MechRefusal) → own.list ≡ first ∷ rest → init_begun own first ≡ r → initiating.opens own r ≡ Ok started → Opened own started
opened_by own first rest started (Ok begun) list begins e =
    let same : record { end = inits.Opens (record { own = own; mech = begun.mech }); token = first_octets own.negotiates (initiating.first_sent own begun.token); makes = begun.makes } ≡ started = cc in
    record {
      first = first;
      rest = rest;
      list = list;
      begun = begun;
      begins = begins;
      end = ap (λ (s : initiating.Started). s.end) (sym same);
      token = ap (λ (s : initiating.Started). s.token) (sym same);
    }
opened_by own first rest started (Err refusal) list begins e = cc

pub opened_from : (own : PlainSetup) (list : List MechCred) (started : initiating.Started) → own.list ≡ list → initiating.starts own list ≡ Ok started → Opened own started
opened_from own [] started e starts = cc
opened_from own (first ∷ rest) started e starts = opened_by own first rest started (init_begun own first) e refl starts

-- the first token of one that negotiates
pub negotiated : (own : PlainSetup) (started : initiating.Started) → (o : Opened own started) → own.negotiates ≡ true → started.token ≡ init_octets (initiating.first_sent own o.begun.token)
negotiated own started o negotiates = o.token ∙ rw negotiates refl

first_chosen : (first cred : MechCred) (rest : List MechCred) (kind : MechKind) → same_kind (kind_of first) kind ≡ true → cred_for (first ∷ rest) kind ≡ Some cred → first ≡ cred
first_chosen first cred rest kind same e = let is : Some first ≡ Some cred = sym (rw same refl) ∙ e in cc

-- ---- the exchange

-- the MIC is due unless the chosen mechanism is the own first one
due_first : (a b : Bool) → not (a && b) ≡ false → a ≡ true
due_first true b e = refl
due_first false b e = cc

due_other : (a b : Bool) → a ≡ false → not (a && b) ≡ true
due_other true b e = cc
due_other false b e = refl

agrees_from : (setup : AcceptSetup) (own : PlainSetup) (kind : MechKind) (occasions : List Occasion) (started : initiating.Started) (o : Opened own started) → own.negotiates ≡ true → (outcome : Outcome) → outcome.mech ≡ kind
    → Completes setup occasions accepts.New (inits.Opens (record { own = own; mech = o.begun.mech })) (init_octets (initiating.first_sent own o.begun.token)) outcome → Agrees setup own kind occasions started
agrees_from setup own kind occasions started o negotiates outcome mech completes = record {
  outcome = outcome;
  mech = mech;
  completes =
      subst (λ (octets : List ℕ). Completes setup occasions accepts.New started.end octets outcome) (sym (negotiated own started o negotiates))
      (subst (λ (e : _). Completes setup occasions accepts.New e (init_octets (initiating.first_sent own o.begun.token)) outcome) (sym o.end) completes);
}

-- the chosen mechanism is the own first one
with_first : (setup : AcceptSetup) (own : PlainSetup) (cred : MechCred) (occasions : List Occasion) (started : initiating.Started) (o : Opened own started) (begun : MechBegun)
    → own.negotiates ≡ true → is_own_list own.list ≡ true → best setup.offer (initiating.own_list own) ≡ Some (kind_of cred) → cred_for own.list (kind_of cred) ≡ Some cred → length own.draws ≡ 66 → IsShort started.token → init_begun own cred ≡ Ok begun
    → AllByRecursion (Fitting setup own cred) occasions → is_first (kinds_of own.list) (kind_of cred) ≡ true → length occasions ≡ rounds_due (kind_of cred) (is_mic_due setup.offer (initiating.own_list own) (kind_of cred))
    → Agrees setup own (kind_of cred) occasions started
with_first setup own cred occasions started o begun negotiates list chosen is_cred draws short begins fits first count =
    let kind : MechKind = kind_of cred in
    let due : Bool = is_mic_due setup.offer (initiating.own_list own) kind in
    let here : same_kind (kind_of o.first) kind ≡ true = subst (λ (l : List MechCred). is_first (kinds_of l) kind ≡ true) o.list first in
    let same : o.first ≡ cred = first_chosen o.first cred o.rest kind here (subst (λ (l : List MechCred). cred_for l kind ≡ Some cred) o.list is_cred) in
    let own_begins : init_begun own cred ≡ Ok o.begun = subst (λ (c : MechCred). init_begun own c ≡ Ok o.begun) same o.begins in
    let named : is_first_named (initiating.own_list own) kind ≡ true = first_named-is own own.list kind ∙ first in
    let heard = hears_first setup own kind o.begun.token list (subst IsShort (negotiated own started o negotiates) short) chosen named in
    let r = runs setup own cred due First accepts.New (init_octets (initiating.first_sent own o.begun.token)) o.begun occasions (λ e. first) (cred_for-own own.list kind cred is_cred) (negotiates, first) draws own_begins heard fits count in
    agrees_from setup own kind occasions started o negotiates r.outcome r.mech r.completes

-- another one is chosen: its first token goes with the second message
switch_before : (setup : AcceptSetup) (own : PlainSetup) (cred : MechCred) (occasion : Occasion) (rest : List Occasion) (first begun : MechBegun) (outcome : Outcome)
    → own.negotiates ≡ true → is_own_list own.list ≡ true → best setup.offer (initiating.own_list own) ≡ Some (kind_of cred) → cred_for own.list (kind_of cred) ≡ Some cred → IsShort (init_octets (initiating.first_sent own first.token)) → init_begun own cred ≡ Ok begun → IsShort (resp_octets (initiating.token_sent begun.token)) → is_first (kinds_of own.list) (kind_of cred) ≡ false
    → Completes setup rest (accepts.Runs (record { chosen = chosen_on own (kind_of cred) true; mech = accept_begun (kind_of cred) })) (end_at Later own (kind_of cred) true begun.mech) (resp_octets (initiating.token_sent begun.token)) outcome
    → Completes setup (occasion ∷ rest) accepts.New (inits.Opens (record { own = own; mech = first.mech })) (init_octets (initiating.first_sent own first.token)) outcome
switch_before setup own cred occasion [] first begun outcome negotiates list chosen is_cred short begins begun_short other c = absurd c
switch_before setup own cred occasion (next ∷ later) first begun outcome negotiates list chosen is_cred short begins begun_short other c = (
  record {
    reply = accepting.reply First (oid_on own (kind_of cred)) true false None None;
    acceptor_after = accepts.Runs (record { chosen = chosen_on own (kind_of cred) true; mech = accept_begun (kind_of cred) });
    accepts = waits setup own (kind_of cred) first.token occasion list short chosen (first_named-is own own.list (kind_of cred) ∙ other);
    initiator_after = end_at Later own (kind_of cred) true begun.mech;
    further = resp_octets (initiating.token_sent begun.token);
    initiates = switches own (kind_of cred) first.mech cred begun negotiates (cred_for-own own.list (kind_of cred) cred is_cred) other is_cred begins;
    short = begun_short;
  },
  c,
)

with_other : (setup : AcceptSetup) (own : PlainSetup) (cred : MechCred) (occasion : Occasion) (rest : List Occasion) (started : initiating.Started) (o : Opened own started) (begun : MechBegun)
    → own.negotiates ≡ true → is_own_list own.list ≡ true → best setup.offer (initiating.own_list own) ≡ Some (kind_of cred) → cred_for own.list (kind_of cred) ≡ Some cred → length own.draws ≡ 66 → IsShort started.token → init_begun own cred ≡ Ok begun
    → IsShort (resp_octets (initiating.token_sent begun.token)) → AllByRecursion (Fitting setup own cred) rest → is_first (kinds_of own.list) (kind_of cred) ≡ false → length rest ≡ rounds_due (kind_of cred) true
    → Agrees setup own (kind_of cred) (occasion ∷ rest) started
with_other setup own cred occasion rest started o begun negotiates list chosen is_cred draws short begins begun_short fits other count =
    let kind : MechKind = kind_of cred in
    let is : is_own own.list kind ≡ true = cred_for-own own.list kind cred is_cred in
    let end : AcceptEnd = accepts.Runs (record { chosen = chosen_on own kind true; mech = accept_begun kind }) in
    let octets : List ℕ = resp_octets (initiating.token_sent begun.token) in
    let heard = hears_later setup (chosen_on own kind true) (accept_begun kind) begun.token begun_short in
    let r = runs setup own cred true Later end octets begun rest (λ e. absurd (let f : true ≡ false = e in cc)) is tt draws begins heard fits count in
    agrees_from setup own kind (occasion ∷ rest) started o negotiates r.outcome r.mech
    (switch_before setup own cred occasion rest o.begun begun r.outcome negotiates list chosen is_cred (subst IsShort (negotiated own started o negotiates) short) begins begun_short other r.completes)

count_first : (n r d : ℕ) (b : Bool) → b ≡ true → n ≡ (if b then 0 else 1) + r + d → n ≡ r + d
count_first n r d true e c = omega (arith, c)
count_first n r d false e c = cc

count_other : (n r d : ℕ) (b : Bool) → b ≡ false → n ≡ (if b then 0 else 1) + r + d → n ≡ 1 + (r + d)
count_other n r d true e c = cc
count_other n r d false e c = omega (arith, c)

other_by : (setup : AcceptSetup) (own : PlainSetup) (cred : MechCred) (occasions : List Occasion) (started : initiating.Started) (o : Opened own started) (begun : MechBegun)
    → own.negotiates ≡ true → is_own_list own.list ≡ true → best setup.offer (initiating.own_list own) ≡ Some (kind_of cred) → cred_for own.list (kind_of cred) ≡ Some cred → length own.draws ≡ 66 → IsShort started.token → init_begun own cred ≡ Ok begun
    → IsShort (resp_octets (initiating.token_sent begun.token)) → AllByRecursion (Fitting setup own cred) occasions → is_first (kinds_of own.list) (kind_of cred) ≡ false → length occasions ≡ 1 + rounds_due (kind_of cred) true
    → Agrees setup own (kind_of cred) occasions started
other_by setup own cred [] started o begun negotiates list chosen is_cred draws short begins begun_short fits other count = absurd (omega (arith, count))
other_by setup own cred (occasion ∷ rest) started o begun negotiates list chosen is_cred draws short begins begun_short fits other count =
    with_other setup own cred occasion rest started o begun negotiates list chosen is_cred draws short begins begun_short fits.1 other (omega (arith, count))

by_cred : (setup : AcceptSetup) (own : PlainSetup) (cred : MechCred) (occasions : List Occasion) (started : initiating.Started) (begun : MechBegun)
    → own.negotiates ≡ true → is_own_list own.list ≡ true → length own.draws ≡ 66 → initiating.init_start own ≡ Ok started → IsShort started.token → init_begun own cred ≡ Ok begun → IsShort (resp_octets (initiating.token_sent begun.token)) → AllByRecursion (Fitting setup own cred) occasions
    → best setup.offer (initiating.own_list own) ≡ Some (kind_of cred) → cred_for own.list (kind_of cred) ≡ Some cred → length occasions ≡ tokens_of setup own (kind_of cred) → Agrees setup own (kind_of cred) occasions started
by_cred setup own cred occasions started begun negotiates list draws starts short begins begun_short fits chosen is_cred count =
    let kind : MechKind = kind_of cred in
    let due : Bool = is_mic_due setup.offer (initiating.own_list own) kind in
    let o = opened_from own own.list started refl starts in
    elim (cases_Bool (is_first (kinds_of own.list) kind)) [
      | inl first ↦
          with_first setup own cred occasions started o begun negotiates list chosen is_cred draws short begins fits first
          (count_first (length occasions) (rounds_of kind) (if due then 1 else 0) (is_first (kinds_of own.list) kind) first count)
      | inr other ↦
          let is_due : due ≡ true = due_other (is_first_named (initiating.own_list own) kind) _ (first_named-is own own.list kind ∙ other) in
          let whole : length occasions ≡ 1 + (rounds_of kind + (if due then 1 else 0)) = count_other (length occasions) (rounds_of kind) (if due then 1 else 0) (is_first (kinds_of own.list) kind) other count in
          other_by setup own cred occasions started o begun negotiates list chosen is_cred draws short begins begun_short fits other
          (subst (λ (b : Bool). length occasions ≡ 1 + (rounds_of kind + (if b then 1 else 0))) is_due whole)
    ]

-- ---- without negotiation

alone_by : (own : PlainSetup) (begun : MechBegun) (started : initiating.Started) (r : Result MechBegun MechRefusal) → own.negotiates ≡ false → r ≡ Ok begun → initiating.opens own r ≡ Ok started
    → (started.end ≡ inits.Opens (record { own = own; mech = begun.mech })) × (started.token ≡ begun.token)
alone_by own begun started (Ok b) negotiates begins e =
    let is : b ≡ begun = cc in
    let same : record { end = inits.Opens (record { own = own; mech = b.mech }); token = first_octets own.negotiates (initiating.first_sent own b.token); makes = b.makes } ≡ started = cc in
    let written : first_octets own.negotiates (initiating.first_sent own b.token) ≡ b.token = rw negotiates refl in (
      ap (λ (s : initiating.Started). s.end) (sym same) ∙ ap (λ (x : MechBegun). inits.Opens (record { own = own; mech = x.mech })) is,
      ap (λ (s : initiating.Started). s.token) (sym same) ∙ written ∙ ap (λ (x : MechBegun). x.token) is,
    )
alone_by own begun started (Err refusal) negotiates begins e = cc

pub alone_from : (own : PlainSetup) (credential : Granted) (begun : MechBegun) (started : initiating.Started) → own.negotiates ≡ false → own.list ≡ creds.Kerberos Standard credential ∷ [] → init_begun own (creds.Kerberos Standard credential) ≡ Ok begun → initiating.init_start own ≡ Ok started
    → (started.end ≡ inits.Opens (record { own = own; mech = begun.mech })) × (started.token ≡ begun.token)
alone_from own credential begun started negotiates list begins e =
    alone_by own begun started (init_begun own (creds.Kerberos Standard credential)) negotiates begins (subst (λ (l : List MechCred). initiating.starts own l ≡ Ok started) list e)

pub only_cred : (credential : Granted) (cred : MechCred) → cred_for (creds.Kerberos Standard credential ∷ []) (kind_of cred) ≡ Some cred → creds.Kerberos Standard credential ≡ cred
only_cred credential (creds.Kerberos name other) e = let f : Some (creds.Kerberos Standard credential) ≡ Some (creds.Kerberos name other) = e in cc
only_cred credential (creds.Scram user password) e = absurd (let f : None ≡ Some (creds.Scram user password) = e in cc)

tokens_alone : (setup : AcceptSetup) (own : PlainSetup) (credential : Granted) → own.list ≡ creds.Kerberos Standard credential ∷ [] → takes_bare setup ≡ true → tokens_of setup own kinds.Kerberos ≡ 1
tokens_alone setup own credential list takes = rw (list, takes-first setup takes) refl

alone_runs : (setup : AcceptSetup) (own : PlainSetup) (credential : Granted) (occasions : List Occasion) (started : initiating.Started) (begun : MechBegun) → own.negotiates ≡ false → own.list ≡ creds.Kerberos Standard credential ∷ [] → takes_bare setup ≡ true
    → length own.draws ≡ 66 → initiating.init_start own ≡ Ok started → init_begun own (creds.Kerberos Standard credential) ≡ Ok begun → AllByRecursion (Fitting setup own (creds.Kerberos Standard credential)) occasions → length occasions ≡ 1
    → Agrees setup own kinds.Kerberos occasions started
alone_runs setup own credential [] started begun negotiates list takes draws starts begins fits count = absurd (omega (arith, count))
alone_runs setup own credential (occasion ∷ []) started begun negotiates list takes draws starts begins fits count =
    let token : List ℕ = (request_begins own credential).token in
    let same : begun ≡ request_begins own credential = begun_is begun (request_begins own credential) (init_begun own (creds.Kerberos Standard credential)) begins (request-begins setup own Standard credential occasion fits.0.facts) in
    let from = alone_from own credential begun started negotiates list begins starts in
    let r = request-ends setup own credential occasion draws fits.0.drawn fits.0.facts in
    let outcome : Outcome = outcome_of kinds.Kerberos (answer_done (honest_judged credential own.stamp own.bindings fits.0.facts.fit.part) occasion.drawn) in
    let done = ends_bare setup own credential token (request_begins own credential).mech token outcome occasion negotiates list (hears_bare setup own credential list fits.0.facts.request takes) r in
    record {
      outcome = outcome;
      mech = refl;
      completes =
          subst (λ (e : EndSays). IsDone setup occasion accepts.New e started.token outcome) (sym (from.0 ∙ ap (λ (b : MechBegun). inits.Opens (record { own = own; mech = b.mech })) same))
          (subst (λ (octets : List ℕ). IsDone setup occasion accepts.New (inits.Opens (record { own = own; mech = (request_begins own credential).mech })) octets outcome) (sym (from.1 ∙ ap (λ (b : MechBegun). b.token) same)) done);
    }
alone_runs setup own credential (first ∷ second ∷ rest) started begun negotiates list takes draws starts begins fits count = absurd (omega (arith, count))

alone_agrees : (setup : AcceptSetup) (own : PlainSetup) (cred : MechCred) (occasions : List Occasion) (started : initiating.Started) (begun : MechBegun) → own.negotiates ≡ false → BareFits setup own
    → length own.draws ≡ 66 → initiating.init_start own ≡ Ok started → init_begun own cred ≡ Ok begun → AllByRecursion (Fitting setup own cred) occasions
    → cred_for own.list (kind_of cred) ≡ Some cred → length occasions ≡ tokens_of setup own (kind_of cred) → Agrees setup own (kind_of cred) occasions started
alone_agrees setup own cred occasions started begun negotiates bare draws starts begins fits is_cred count =
    let a = bare-list own.list bare.list in
    let same : creds.Kerberos Standard a.credential ≡ cred = only_cred a.credential cred (subst (λ (l : List MechCred). cred_for l (kind_of cred) ≡ Some cred) a.is is_cred) in
    subst (λ (c : MechCred). init_begun own c ≡ Ok begun → AllByRecursion (Fitting setup own c) occasions → length occasions ≡ tokens_of setup own (kind_of c) → Agrees setup own (kind_of c) occasions started) same
    (λ b f n. alone_runs setup own a.credential occasions started begun negotiates a.is bare.takes draws starts b f (n ∙ tokens_alone setup own a.credential a.is bare.takes))
    begins fits count

pub exchanges : (setup : AcceptSetup) (own : PlainSetup) (kind : MechKind) (occasions : List Occasion) → (h : HonestPair setup own kind occasions) → Agrees setup own kind occasions h.started
exchanges setup own kind occasions h =
    subst (λ (k : MechKind). best setup.offer (initiating.own_list own) ≡ Some k → cred_for own.list k ≡ Some h.cred → length occasions ≡ tokens_of setup own k → Agrees setup own k occasions h.started)
    (cred_for-kind own.list kind h.cred h.is_cred)
    (λ chosen is_cred count. elim (cases_Bool own.negotiates) [
      | inl negotiates ↦ by_cred setup own h.cred occasions h.started h.begun negotiates h.is_list h.draws h.starts h.short h.begins h.begun_short h.fit chosen is_cred count
      | inr alone ↦ alone_agrees setup own h.cred occasions h.started h.begun alone (h.bare alone) h.draws h.starts h.begins h.fit is_cred count
    ])
    h.chosen h.is_cred h.counted
