-- The last rounds of an honest exchange: the mechanism's last round, and the MICs where they are due.
use Rattle.std.proofs.Common.{◌≡◌, ◌⊎◌, inl, inr, ℕ, ◌≤◌, lit≤, Bool, true, false, if◌then◌else◌, refl, sym, ap, ◌∙◌, subst, arith, List, [], ◌∷◌, ◌++◌, length, take, option_map, option_to_list, Option, Some, None, Ok}
use Rattle.std.proofs.lemmas.Option.{none-some}
use Rattle.gss_base.specs.declared.mark.Mark.{Mark}
use Rattle.gss_base.specs.declared.mech.MechKind.{MechKind}
use Rattle.gss_base.specs.declared.mech.MechKind.TheVariants as kinds
use Rattle.gss_base.specs.declared.mech.KerberosName.TheVariants.{Standard}
use Rattle.krb_files.specs.Granted.{Granted}
use Rattle.krb_tokens.specs.declared.end.Side.TheVariants.{Initiator, Acceptor}
use Rattle.scram_mech.specs.MechMaking.{OfType, OfPassword, MechMaking, AmongMakings, proof_making}
use Rattle.spnego_core.specs.declared.outcome.Outcome.{Outcome}
use Rattle.spnego_core.specs.declared.setup.MechCred.TheVariants as creds
use Rattle.spnego_core.specs.MechStates.{InitMech}
use Rattle.spnego_core.specs.MechStates as tells
use Rattle.spnego_core.specs.declared.accept_mech.AcceptMech.{AcceptMech}
use Rattle.spnego_core.specs.declared.accept_mech.AcceptMech.TheVariants as mechs
use Rattle.spnego_core.specs.declared.accept_end.AcceptEnd.{AcceptEnd}
use Rattle.spnego_core.specs.declared.accept_end.AcceptEnd.TheVariants as accepts
use Rattle.spnego_core.specs.declared.accept_end.Chosen.{Chosen}
use Rattle.spnego_core.specs.declared.accept_end.Turn.{Turn}
use Rattle.spnego_core.specs.declared.accept_end.Turn.TheVariants.{Bare}
use Rattle.spnego_core.specs.Ends as inits
use Rattle.spnego_core.specs.AcceptMech.{Basis, Built, MechTaken, accept_taken}
use Rattle.spnego_core.specs.Accepting.{Fixed, told, gone_on, finished, told_makes, mic_made, fixed_with, ran_with, run, reply}
use Rattle.spnego_core.specs.Choice.{is_first}
use Rattle.spnego_core.specs.Exchange.{passed}
use Rattle.spnego_core.specs.InitMech.{kinds_of, is_own, MechReplied, init_taken}
use Rattle.spnego_core.specs.Initiating.{own_list}
use Rattle.spnego_core.specs.ListMic.{list_mic, mic_making, mic_found}
use Rattle.spnego_core.proofs.Makings.{among_front, among_back, among_split}
use Rattle.spnego_core.proofs.Short.{list_mic_within}
use Rattle.spnego_core.proofs.Spelled.{mic_short}
use Rattle.spnego_core.proofs.Turns.{MayCome, oid_on, chosen_on, end_at, signed_on, last_mic, Hears}
use Rattle.accept_book.specs.Booking.{mark_of}
use Rattle.world_laws.specs.Deeds.{Opened}
use Rattle.world_laws.specs.Lanes.{opened_in, request_of}
use Rattle.world_laws.specs.Premises.{WasIssued}
use Rattle.world_runs.proofs.MetMessages.{reply-short, token-holds, none-holds, mic-holds, ended_plain, takes-plain, takes-bare, ended_signed, takes-signed, closed_with, closes, owes, settled, settles, acceptors-found, initiators-found}
use Rattle.world_runs.proofs.MetRounds.{Setting, setup_in, IsNew, IsTyped, Heard, Goes, Final, Ends, Rounds}

-- ---- what was handed out, by parts

pub wider : (a b c : List MechMaking) (m : MechMaking) → AmongMakings (a ++ b) m → AmongMakings (a ++ (b ++ c)) m
wider a b c m among = elim (among_split a b m among) [
  | inl front ↦ among_front a (b ++ c) m front
  | inr back ↦ among_back a (b ++ c) m (among_front b c m back)
]

pub bare : (a : List MechMaking) (m : MechMaking) → AmongMakings (a ++ []) m → AmongMakings a m
bare a m among = elim (among_split a [] m among) [ inl front ↦ front | inr none ↦ absurd none ]

-- the proofs stay the same where what is more is typed
not-typed : {A : Type 0} (key last proof : List ℕ) → IsTyped (proof_making key last proof) → A
not-typed key last proof t = let e : OfPassword key ≡ OfType t.key = t.is in absurd cc

pub final-on : (x : Setting) (made more : List MechMaking) (outcome : Outcome) (basis : Basis) → Final x made outcome basis → ((m : MechMaking) → AmongMakings more m → AmongMakings made m ⊎ IsTyped m) → Final x more outcome basis
final-on x made more outcome basis f sorted = record {
  guarded = f.guarded;
  on = f.on;
  by_request = f.by_request;
  by_proof = λ end text auth is has key last proof long among. elim (sorted (proof_making key last proof) among) [
    | inl there ↦ f.by_proof end text auth is has key last proof long there
    | inr t ↦ not-typed key last proof t
  ];
}

-- ---- the mechanism's last round

-- both are done with it, by what was handed out before; the mechanism asks for a new mark or for none
pub record LastRound (x : Setting) (drawn : List ℕ) (mech : AcceptMech) (own_mech : InitMech) (token : List ℕ) (made : List MechMaking) (outcome : Outcome) : Type 0 where
  pub taken : MechTaken
  pub accepts : accept_taken (setup_in x) mech token x.now drawn ≡ Ok taken
  pub lasts : ℕ
  pub last : List ℕ
  pub passes : (turn : Turn) (chosen : Chosen) → passed (told turn chosen taken.answer) ≡ gone_on (finished turn chosen outcome lasts last)
  pub makes : (chosen : Chosen) → told_makes chosen taken.answer ≡ mic_made chosen outcome
  pub size : length last ≤ 65000
  pub basis : Basis
  pub built : taken.built ≡ Some (record { outcome = outcome; lasts = lasts; basis = basis })
  pub found : (m : MechMaking) → AmongMakings taken.found m → AmongMakings made m
  pub mark : (turn : Turn) (chosen : Chosen) (mark : Mark) → mark_of (told turn chosen taken.answer) ≡ Some mark → IsNew x mark
  pub replied : MechReplied
  pub replies : init_taken own_mech last ≡ Ok replied
  pub done : replied.answer ≡ tells.Done outcome
  pub none : replied.makes ≡ []
  pub verified : (m : MechMaking) → AmongMakings replied.found m → AmongMakings (made ++ taken.makes) m
  pub final : Final x (made ++ taken.makes) outcome basis

-- a ticket that a token opens was issued
abbrev pub Issues : Setting → AcceptEnd → List ℕ → Type 0
Issues x end octets = (o : Opened) → opened_in (setup_in x).keytab (setup_in x).own (request_of (setup_in x) end octets) ≡ Some o → WasIssued x.marking o

-- the context that is fixed
abbrev fixed_as : (x : Setting) (drawn : List ℕ) (mech : AcceptMech) (own_mech : InitMech) (token : List ℕ) (made : List MechMaking) (outcome : Outcome) → LastRound x drawn mech own_mech token made outcome → Fixed
fixed_as x drawn mech own_mech token made outcome r = fixed_with (own_list x.own) (record { outcome = outcome; lasts = r.lasts; basis = r.basis })

fixes-so : (x : Setting) (kind : MechKind) (due : Bool) (turn : Turn) (drawn : List ℕ) (mech : AcceptMech) (own_mech : InitMech) (token : List ℕ) (made : List MechMaking) (outcome : Outcome) → (r : LastRound x drawn mech own_mech token made outcome)
    → (ran_with turn (chosen_on x.own kind due) r.taken).fixes ≡ Some (fixed_as x drawn mech own_mech token made outcome r)
fixes-so x kind due turn drawn mech own_mech token made outcome r = ap (λ (b : Option Built). option_map (fixed_with (own_list x.own)) b) r.built

abbrev heard-so : (x : Setting) (kind : MechKind) (due : Bool) (turn : Turn) (end : AcceptEnd) (octets drawn : List ℕ) (mech : AcceptMech) (own_mech : InitMech) (token : List ℕ) (made : List MechMaking) (outcome : Outcome)
    → Hears (setup_in x) end octets turn (chosen_on x.own kind due) mech token → Issues x end octets → LastRound x drawn mech own_mech token made outcome → Heard x end octets drawn made []
heard-so x kind due turn end octets drawn mech own_mech token made outcome hears issues r = record {
  accepted = ran_with turn (chosen_on x.own kind due) r.taken;
  accepts = hears x.now drawn ∙ ap (run turn (chosen_on x.own kind due)) r.accepts;
  found = r.found;
  issued = issues;
  mark = λ mark e. (refl, r.mark turn (chosen_on x.own kind due) mark e);
  unmarked = λ none. absurd (none-some (fixed_as x drawn mech own_mech token made outcome r) (sym none ∙ fixes-so x kind due turn drawn mech own_mech token made outcome r));
}

-- what is handed out at the acceptor is the mechanism's, and the MIC where it is due
sorted-by : (x : Setting) (kind : MechKind) (due : Bool) (drawn : List ℕ) (mech : AcceptMech) (own_mech : InitMech) (token : List ℕ) (made : List MechMaking) (outcome : Outcome) → (r : LastRound x drawn mech own_mech token made outcome)
    → (m : MechMaking) → AmongMakings (made ++ (r.taken.makes ++ told_makes (chosen_on x.own kind due) r.taken.answer)) m → AmongMakings (made ++ r.taken.makes) m ⊎ IsTyped m
sorted-by x kind due drawn mech own_mech token made outcome r m among = elim (among_split made (r.taken.makes ++ told_makes (chosen_on x.own kind due) r.taken.answer) m among) [
  | inl front ↦ inl (among_front made r.taken.makes m front)
  | inr back ↦ elim (among_split r.taken.makes (told_makes (chosen_on x.own kind due) r.taken.answer) m back) [
    | inl middle ↦ inl (among_back made r.taken.makes m middle)
    | inr mic ↦ inr (mic-typed due (subst (λ (ms : List MechMaking). AmongMakings ms m) (r.makes (chosen_on x.own kind due)) mic))
  ]
]
  where
    mic-typed : (b : Bool) → AmongMakings (mic_made (chosen_on x.own kind b) outcome) m → IsTyped m
    mic-typed false none = absurd none
    mic-typed true (inl is) = record { key = outcome.key; is = ap (λ (n : MechMaking). n.key) is }
    mic-typed true (inr none) = absurd none

-- ---- without the MICs

plain-ends : (x : Setting) (kind : MechKind) (turn : Turn) (end : AcceptEnd) (octets drawn : List ℕ) (mech : AcceptMech) (own_mech : InitMech) (token : List ℕ) (made : List MechMaking) (outcome : Outcome)
    → is_first (kinds_of x.own.list) kind ≡ true → is_own x.own.list kind ≡ true → MayCome turn x.own kind → Hears (setup_in x) end octets turn (chosen_on x.own kind false) mech token → Issues x end octets
    → LastRound x drawn mech own_mech token made outcome → Ends x end (end_at turn x.own kind false own_mech) octets drawn made [] outcome
plain-ends x kind turn end octets drawn mech own_mech token made outcome first is may hears issues r = record {
  heard = heard-so x kind false turn end octets drawn mech own_mech token made outcome hears issues r;
  lasts = r.lasts;
  reply = reply turn (oid_on x.own kind) false true (Some r.last) None;
  done = r.passes turn (chosen_on x.own kind false);
  size = reply-short turn x.own kind false true (Some r.last) None (token-holds r.last r.size) (none-holds 28);
  took = record {
    initiated = ended_plain kind r.replied outcome;
    initiates = takes-plain turn x.own kind own_mech r.last r.replied outcome is may first r.size r.replies r.done;
    found = λ m among. wider made r.taken.makes (told_makes (chosen_on x.own kind false) r.taken.answer) m (r.verified m (bare r.replied.found m among));
  };
  completes = refl;
  none = ap (λ (ms : List MechMaking). ms ++ []) r.none;
  context = fixed_as x drawn mech own_mech token made outcome r;
  fixes = ap option_to_list (fixes-so x kind false turn drawn mech own_mech token made outcome r);
  outcome_is = refl;
  lasts_is = refl;
  final = final-on x (made ++ r.taken.makes) (made ++ (r.taken.makes ++ told_makes (chosen_on x.own kind false) r.taken.answer)) outcome r.basis r.final (sorted-by x kind false drawn mech own_mech token made outcome r);
}

-- ---- without negotiation

pub bare-ends : (x : Setting) (credential : Granted) (octets drawn : List ℕ) (own_mech : InitMech) (token : List ℕ) (made : List MechMaking) (outcome : Outcome)
    → x.own.negotiates ≡ false → x.own.list ≡ creds.Kerberos Standard credential ∷ [] → Hears (setup_in x) accepts.New octets Bare (chosen_on x.own kinds.Kerberos false) mechs.Kerberos token → Issues x accepts.New octets
    → LastRound x drawn mechs.Kerberos own_mech token made outcome → Ends x accepts.New (inits.Opens (record { own = x.own; mech = own_mech })) octets drawn made [] outcome
bare-ends x credential octets drawn own_mech token made outcome negotiates list hears issues r = record {
  heard = heard-so x kinds.Kerberos false Bare accepts.New octets drawn mechs.Kerberos own_mech token made outcome hears issues r;
  lasts = r.lasts;
  reply = reply Bare (oid_on x.own kinds.Kerberos) false true (Some r.last) None;
  done = r.passes Bare (chosen_on x.own kinds.Kerberos false);
  size = reply-short Bare x.own kinds.Kerberos false true (Some r.last) None (token-holds r.last r.size) (none-holds 28);
  took = record {
    initiated = ended_plain kinds.Kerberos r.replied outcome;
    initiates = takes-bare x.own credential own_mech r.last r.replied outcome negotiates list r.replies r.done;
    found = λ m among. wider made r.taken.makes (told_makes (chosen_on x.own kinds.Kerberos false) r.taken.answer) m (r.verified m (bare r.replied.found m among));
  };
  completes = refl;
  none = ap (λ (ms : List MechMaking). ms ++ []) r.none;
  context = fixed_as x drawn mechs.Kerberos own_mech token made outcome r;
  fixes = ap option_to_list (fixes-so x kinds.Kerberos false Bare drawn mechs.Kerberos own_mech token made outcome r);
  outcome_is = refl;
  lasts_is = refl;
  final = final-on x (made ++ r.taken.makes) (made ++ (r.taken.makes ++ told_makes (chosen_on x.own kinds.Kerberos false) r.taken.answer)) outcome r.basis r.final
      (sorted-by x kinds.Kerberos false drawn mechs.Kerberos own_mech token made outcome r);
}

-- ---- with them

-- the acceptor's MIC was handed out
acceptors-out : (x : Setting) (kind : MechKind) (drawn : List ℕ) (mech : AcceptMech) (own_mech : InitMech) (token : List ℕ) (made : List MechMaking) (outcome : Outcome) → (r : LastRound x drawn mech own_mech token made outcome) → (m : MechMaking)
    → AmongMakings (mic_found outcome Initiator (own_list x.own) (list_mic outcome Acceptor (own_list x.own)) ∷ []) m → AmongMakings (told_makes (chosen_on x.own kind true) r.taken.answer) m
acceptors-out x kind drawn mech own_mech token made outcome r m (inl is) = subst (λ (ms : List MechMaking). AmongMakings ms m) (sym (r.makes (chosen_on x.own kind true))) (inl (is ∙ acceptors-found outcome (own_list x.own)))
acceptors-out x kind drawn mech own_mech token made outcome r m (inr none) = absurd none

-- the round after which the initiator's MIC is owed
abbrev signed-goes : (x : Setting) (kind : MechKind) (turn : Turn) (end : AcceptEnd) (octets drawn : List ℕ) (mech : AcceptMech) (own_mech : InitMech) (token : List ℕ) (made : List MechMaking) (outcome : Outcome)
    → is_own x.own.list kind ≡ true → MayCome turn x.own kind → Hears (setup_in x) end octets turn (chosen_on x.own kind true) mech token → Issues x end octets
    → LastRound x drawn mech own_mech token made outcome → Goes x end (end_at turn x.own kind true own_mech) octets drawn made []
signed-goes x kind turn end octets drawn mech own_mech token made outcome is may hears issues r = record {
  heard = heard-so x kind true turn end octets drawn mech own_mech token made outcome hears issues r;
  after = owes x.own outcome r.lasts;
  reply = reply turn (oid_on x.own kind) true true (Some r.last) (Some (list_mic outcome Acceptor (own_list x.own)));
  goes = r.passes turn (chosen_on x.own kind true);
  size = reply-short turn x.own kind true true (Some r.last) (Some (list_mic outcome Acceptor (own_list x.own))) (token-holds r.last r.size) (mic-holds outcome (own_list x.own));
  took = record {
    initiated = ended_signed x.own kind r.replied outcome;
    initiates = takes-signed turn x.own kind own_mech r.last r.replied outcome is may r.size r.replies r.done;
    found = λ m among. elim (among_split r.replied.found (mic_found outcome Initiator (own_list x.own) (list_mic outcome Acceptor (own_list x.own)) ∷ []) m among) [
      | inl there ↦ wider made r.taken.makes (told_makes (chosen_on x.own kind true) r.taken.answer) m (r.verified m there)
      | inr mic ↦ among_back made (r.taken.makes ++ told_makes (chosen_on x.own kind true) r.taken.answer) m
          (among_back r.taken.makes (told_makes (chosen_on x.own kind true) r.taken.answer) m (acceptors-out x kind drawn mech own_mech token made outcome r m mic))
    ];
  };
  next = signed_on x.own kind outcome;
  further = last_mic x.own outcome;
  more = refl;
  short = mic_short (list_mic outcome Initiator (own_list x.own)) (list_mic_within outcome Initiator (own_list x.own));
}

-- what was handed out up to it
abbrev made_signed : (x : Setting) (kind : MechKind) (drawn : List ℕ) (mech : AcceptMech) (own_mech : InitMech) (token : List ℕ) (made : List MechMaking) (outcome : Outcome) → LastRound x drawn mech own_mech token made outcome → List MechMaking
made_signed x kind drawn mech own_mech token made outcome r =
    (made ++ (r.taken.makes ++ told_makes (chosen_on x.own kind true) r.taken.answer)) ++ (r.replied.makes ++ mic_making outcome Initiator (own_list x.own) ∷ [])

-- and the one with that MIC
signed-ends : (x : Setting) (kind : MechKind) (turn : Turn) (drawn last : List ℕ) (mech : AcceptMech) (own_mech : InitMech) (token : List ℕ) (made : List MechMaking) (outcome : Outcome) → (r : LastRound x drawn mech own_mech token made outcome)
    → Ends x (owes x.own outcome r.lasts) (signed_on x.own kind outcome) (last_mic x.own outcome) last (made_signed x kind drawn mech own_mech token made outcome r)
    ([] ++ option_to_list (ran_with turn (chosen_on x.own kind true) r.taken).fixes) outcome
signed-ends x kind turn drawn last mech own_mech token made outcome r = record {
  heard = record {
    accepted = settled x.own outcome r.lasts;
    accepts = settles (setup_in x) x.own outcome r.lasts x.now last;
    found = λ m among. among_back (made ++ (r.taken.makes ++ told_makes (chosen_on x.own kind true) r.taken.answer)) (r.replied.makes ++ mic_making outcome Initiator (own_list x.own) ∷ []) m
        (among_back r.replied.makes (mic_making outcome Initiator (own_list x.own) ∷ []) m (handed-out m among));
    issued = λ o e. absurd (none-some o e);
    mark = λ mark e. absurd (none-some mark e);
    unmarked = λ none. refl;
  };
  lasts = r.lasts;
  reply = [];
  done = refl;
  size = lit≤ tt;
  took = record {
    initiated = closed_with kind outcome;
    initiates = closes x.own kind outcome;
    found = λ m none. absurd none;
  };
  completes = refl;
  none = refl;
  context = fixed_as x drawn mech own_mech token made outcome r;
  fixes = ap (λ (f : Option Fixed). option_to_list f ++ []) (fixes-so x kind true turn drawn mech own_mech token made outcome r);
  outcome_is = refl;
  lasts_is = refl;
  final = final-on x (made ++ r.taken.makes) (made_signed x kind drawn mech own_mech token made outcome r ++ []) outcome r.basis r.final (λ m among. sorted m (bare (made_signed x kind drawn mech own_mech token made outcome r) m among));
}
  where
    handed-out : (m : MechMaking) → AmongMakings (mic_found outcome Acceptor (own_list x.own) (list_mic outcome Initiator (own_list x.own)) ∷ []) m → AmongMakings (mic_making outcome Initiator (own_list x.own) ∷ []) m
    handed-out m (inl is) = inl (is ∙ initiators-found outcome (own_list x.own))
    handed-out m (inr none) = absurd none

    typed-mic : (m : MechMaking) → AmongMakings (mic_making outcome Initiator (own_list x.own) ∷ []) m → IsTyped m
    typed-mic m (inl is) = record { key = outcome.key; is = ap (λ (n : MechMaking). n.key) is }
    typed-mic m (inr none) = absurd none

    sorted : (m : MechMaking) → AmongMakings (made_signed x kind drawn mech own_mech token made outcome r) m → AmongMakings (made ++ r.taken.makes) m ⊎ IsTyped m
    sorted m among = elim (among_split (made ++ (r.taken.makes ++ told_makes (chosen_on x.own kind true) r.taken.answer)) (r.replied.makes ++ mic_making outcome Initiator (own_list x.own) ∷ []) m among) [
      | inl front ↦ sorted-by x kind true drawn mech own_mech token made outcome r m front
      | inr back ↦ elim (among_split r.replied.makes (mic_making outcome Initiator (own_list x.own) ∷ []) m back) [
        | inl none ↦ absurd (subst (λ (ms : List MechMaking). AmongMakings ms m) r.none none)
        | inr mic ↦ inr (typed-mic m mic)
      ]
    ]

-- ---- by whether the MICs are due

pub finishes : (x : Setting) (kind : MechKind) (due : Bool) (turn : Turn) (end : AcceptEnd) (octets : List ℕ) (mech : AcceptMech) (own_mech : InitMech) (token : List ℕ) (made : List MechMaking) (outcome : Outcome) (draws : List ℕ) (rest : List (List ℕ))
    → (due ≡ false → is_first (kinds_of x.own.list) kind ≡ true) → is_own x.own.list kind ≡ true → MayCome turn x.own kind → Hears (setup_in x) end octets turn (chosen_on x.own kind due) mech token → Issues x end octets
    → LastRound x (take 66 draws) mech own_mech token made outcome → length rest ≡ (if due then 1 else 0)
    → Rounds x (draws ∷ rest) end (end_at turn x.own kind due own_mech) octets made [] outcome
finishes x kind false turn end octets mech own_mech token made outcome draws [] first is may hears issues r count =
    plain-ends x kind turn end octets (take 66 draws) mech own_mech token made outcome (first refl) is may hears issues r
finishes x kind false turn end octets mech own_mech token made outcome draws (next ∷ rest) first is may hears issues r count = absurd (omega (arith, count))
finishes x kind true turn end octets mech own_mech token made outcome draws [] first is may hears issues r count = absurd (omega (arith, count))
finishes x kind true turn end octets mech own_mech token made outcome draws (next ∷ []) first is may hears issues r count = (
  signed-goes x kind turn end octets (take 66 draws) mech own_mech token made outcome is may hears issues r,
  signed-ends x kind turn (take 66 draws) (take 66 next) mech own_mech token made outcome r,
)
finishes x kind true turn end octets mech own_mech token made outcome draws (next ∷ more ∷ rest) first is may hears issues r count = absurd (omega (arith, count))
