-- Each event of a carried run finds what was handed out, and leaves each exchange where it goes on.
use Rattle.std.proofs.Common.{◌≡◌, ◌≢◌, ◌⊎◌, inl, inr, ℕ, ◌+◌, ◌<◌, ◌≤◌, ◌^◌, refl, sym, ap, ◌∙◌, subst, arith, List, [], ◌∷◌, ◌++◌, length, take, slice_get, slice_set, option_map, option_to_list, Option, Some, None, Ok}
use Rattle.std.proofs.lemmas.Option.{none-some, same_Some}
use Rattle.rpc_msgs.specs.Words.{word}
use Rattle.scram_mech.specs.MechMaking.{MechMaking, AmongMakings}
use Rattle.spnego_core.specs.declared.accept_end.AcceptEnd.{AcceptEnd}
use Rattle.spnego_core.specs.declared.accept_end.AcceptEnd.TheVariants as ends
use Rattle.spnego_core.specs.declared.accept_end.AcceptStep.TheVariants as accept_steps
use Rattle.spnego_core.specs.declared.outcome.Outcome.{Outcome}
use Rattle.spnego_core.specs.declared.setup.AcceptSetup.{AcceptSetup}
use Rattle.spnego_core.specs.Accepting.{Fixed, accept_step}
use Rattle.spnego_core.specs.Ends.{PlainSetup, EndSays}
use Rattle.spnego_core.specs.Initiating.{init_start}
use Rattle.spnego_core.proofs.Makings.{among_front, among_back, among_split}
use Rattle.accept_core.specs.declared.entry.Entry.{Entry}
use Rattle.accept_core.specs.Entering.{id_of}
use Rattle.accept_core.specs.History.{opened}
use Rattle.gss_client.specs.Session.{SessionState, xid_after}
use Rattle.pair_laws.proofs.Ruling.{IsId}
use Rattle.pair_laws.proofs.Settling.{Negotiates}
use Rattle.world_laws.specs.declared.event.Happened.{Happened}
use Rattle.world_laws.specs.declared.event.Happened.TheVariants.{Sent}
use Rattle.world_laws.specs.declared.event.WorldEvent.{WorldEvent}
use Rattle.world_laws.specs.declared.event.WorldEvent.TheVariants.{Start, Deliver, Lane, CallBy}
use Rattle.world_laws.specs.Stages as stages
use Rattle.world_laws.specs.Deeds.{Opened, Deed}
use Rattle.world_laws.specs.State.{Context, World, moved_to}
use Rattle.world_laws.specs.Lanes.{context_with}
use Rattle.world_laws.specs.Events.{Happens}
use Rattle.world_laws.specs.Premises.{Marking, Listed, WasMade, WasIssued, Unforged}
use Rattle.world_laws.proofs.Growing.{Grows, grows, listed-grows}
use Rattle.world_laws.proofs.Slices.{set-same, set-other, set-cases, get-last}
use Rattle.world_runs.specs.Served.{told_width}
use Rattle.world_runs.proofs.MetEvents.{call_of, window_of, settled-passed}
use Rattle.world_runs.proofs.MetRounds.{Setting, Heard, Rounds}
use Rattle.world_many.specs.Carried.{NoEnds, Nowhere, Out, Back, Line, Plan, OnWay, out_of, IsStarted, IsBrought, IsReturned, CarriedBy}
use Rattle.world_many.proofs.ManyLanes.{Case, own, step_in, reply_on, Answers, answers-so, stays-other, goes-own, settles-own, counted, opened-few}
use Rattle.world_many.proofs.ManyTurns.{was-ready, begun-so, takes-on, takes-last}
use Rattle.world_many.proofs.ManyStates.{setting_of, Fixes, Asking, GoesOn, IsLast, StandsBy, Placed, Carrying, Keeps, Turned, carry-on}

-- what an event came to
pub record Stepped (old : World) (now : ℕ) (plans : List Plan) (marking : Marking) (w : World) (deed : Deed) (new : World) (after : List Line) : Type 0 where
  pub ids : List (Option ℕ)
  pub carrying : Carrying old now plans new after ids
  pub unforged : Unforged marking w deed

-- each ticket that it opened was issued
abbrev pub Issued : Marking → Deed → Type 0
Issued marking deed = (opened : Opened) → deed.opened ≡ Some opened → WasIssued marking opened

-- what was found was handed out
made-all : (marking : Marking) (w : World) (deed : Deed) → ((m : MechMaking) → AmongMakings deed.found m → WasMade w m) → Issued marking deed → Unforged marking w deed
made-all marking w deed made issued = record { made = λ m among guarded. made m among; issued = issued }

same-octets : (a b : List ℕ) → Some (Sent a) ≡ Some (Sent b) → a ≡ b
same-octets a b e = cc

same-out : (way : OnWay) (a b : List ℕ) → way ≡ Out a → way ≡ Out b → a ≡ b
same-out way a b e f = cc

-- the state of a line by what is on its way
stands-as : (old : World) (now : ℕ) (plans : List Plan) (w : World) (i : ℕ) (line : Line) (ids : List (Option ℕ)) (p : Placed old now plans w i line ids) (way : OnWay) → line.way ≡ way → StandsBy p.pair w line.draws p.id way
stands-as old now plans w i line ids p way e = subst (λ (z : OnWay). StandsBy p.pair w line.draws p.id z) e p.stands

-- an initiator's event leaves the book and the others
moved-keeps : (w new : World) (i j : ℕ) (id : Option ℕ) (stage : stages.StageSays) (makes : List MechMaking) → new ≡ moved_to w i stage makes → Grows w new → i ≢ j → Keeps w new j id
moved-keeps w new i j id stage makes is g ne = record {
  stage = ap (λ (z : World). slice_get z.stages j) is ∙ set-other w.stages i j stage ne;
  waits = λ n end e k. subst (λ (z : World). Negotiates n z.book.core end) (sym is) k;
  grows = g;
}

-- what an initiator's event leads to
moved-turned : (old : World) (now : ℕ) (plans : List Plan) (w new : World) (lines : List Line) (ids : List (Option ℕ)) (i : ℕ) (line : Line) (stage : stages.StageSays) (makes : List MechMaking) → Carrying old now plans w lines ids → new ≡ moved_to w i stage makes → Grows w new
    → Placed old now plans new i line ids → Turned old now plans w new i line ids ids
moved-turned old now plans w new lines ids i line stage makes k is g placed = record {
  setup = ap (λ (z : World). z.book.setup) is;
  serves = g.serves;
  own = placed;
  others = λ j id ne there. (there, moved-keeps w new i j id stage makes is g ne);
  apart = k.apart;
  counted = λ j n there. subst (λ (z : World). n ≤ opened z.book.core.history) (sym is) (k.counted j n there);
}

-- ---- a start

pub starts-on : (old : World) (now : ℕ) (plans : List Plan) (marking : Marking) (w : World) (lines : List Line) (ids : List (Option ℕ)) (i : ℕ) (deed : Deed) (new : World) (after : List Line) → Carrying old now plans w lines ids → Happens w (Start i) deed new → IsStarted lines i deed after
    → Issued marking deed → Stepped old now plans marking w deed new after
starts-on old now plans marking w lines ids i deed new after k happens s issued =
    let placed = k.states i s.line s.there in
    let r = was-ready w i deed new s.octets happens s.sent in
    let before = stands-as old now plans w i s.line ids placed Nowhere s.none r.own r.there in
    let p = placed.pair in
    let b = begun-so w i r.own p.started deed new k.serves r.there (ap init_start before.0 ∙ p.begins) happens (λ e. none-some (Sent s.octets) (sym e ∙ s.sent)) in
    let g = grows w (Start i) deed new happens in
    let octets : s.octets ≡ call_of 1 None p.started.token = same-octets s.octets (call_of 1 None p.started.token) (sym s.sent ∙ b.answer) in
    let few : length s.line.draws ≤ 4 = subst (λ (ds : List (List ℕ)). length ds ≤ 4) (sym before.1) p.few in
    let asking : Asking (setting_of p) new i s.line.draws None s.octets = record {
      xid = 1;
      end = ends.New;
      initiator = p.started.end;
      token = p.started.token;
      made = p.started.makes;
      fixed = [];
      outcome = p.honest.outcome;
      stage = ap (λ (z : World). slice_get z.stages i) b.new_is ∙ set-same w.stages i (stages.Asks 1 p.started.end) (stages.Ready r.own) r.there;
      is = octets;
      comes = refl;
      xids = omega (arith, few);
      rounds = subst (λ (ds : List (List ℕ)). Rounds (setting_of p) ds ends.New p.started.end p.started.token p.started.makes [] p.honest.outcome) (sym before.1) p.honest.rounds;
      short = p.short;
      there = λ m among. subst (λ (z : World). AmongMakings z.makings m) (sym b.new_is) (among_back w.makings p.started.makes m among);
      fixes = λ f e. absurd cc;
    } in
    let line : Line = record { draws = s.line.draws; way = Out s.octets } in
    let own_placed : Placed old now plans new i line ids = record { pair = p; id = placed.id; there = placed.there; stands = subst (λ (z : Option ℕ). Asking (setting_of p) new i s.line.draws z s.octets) (sym before.2) asking } in
    record {
      ids = ids;
      carrying = subst (λ (ls : List Line). Carrying old now plans new ls ids) (sym s.after_is)
          (carry-on old now plans w new lines ids ids i line k (moved-turned old now plans w new lines ids i line (stages.Asks 1 p.started.end) p.started.makes k b.new_is g own_placed));
      unforged = made-all marking w deed (λ m among. absurd (subst (λ (ms : List MechMaking). AmongMakings ms m) b.found among)) issued;
    }

-- ---- a reply

next-xid : (xid : ℕ) → xid + 1 < 2 ^ 32 → xid_after xid ≡ xid + 1
next-xid xid h = omega arith

four-octets : length (word told_width) ≡ 4
unfolding word
four-octets = refl

-- both go on
returns-on : (old : World) (now : ℕ) (plans : List Plan) (marking : Marking) (w : World) (lines : List Line) (ids : List (Option ℕ)) (i first : ℕ) (octets : List ℕ) (deed : Deed) (new : World) (after : List Line) → Carrying old now plans w lines ids → Happens w (Deliver i octets first) deed new
    → (s : IsReturned lines i octets deed after) → (placed : Placed old now plans w i s.line ids) → GoesOn (setting_of placed.pair) w i s.line.draws placed.id octets → Issued marking deed → Stepped old now plans marking w deed new after
returns-on old now plans marking w lines ids i first octets deed new after k happens s placed a issued =
    let p = placed.pair in
    let t = takes-on w i first a.xid a.n a.initiator a.reply a.made a.took a.next a.further a.stage a.more (omega (arith, a.xids)) a.size deed new k.serves (subst (λ (os : List ℕ). Happens w (Deliver i os first) deed new) a.is happens) s.some in
    let g = grows w (Deliver i octets first) deed new happens in
    let xid_is : xid_after a.xid ≡ a.xid + 1 = next-xid a.xid (omega (arith, a.xids)) in
    let asking : Asking (setting_of p) new i s.line.draws (Some a.n) (call_of (xid_after a.xid) (Some a.n) a.further) = record {
      xid = xid_after a.xid;
      end = a.after;
      initiator = a.next;
      token = a.further;
      made = a.made ++ a.took.initiated.makes;
      fixed = a.fixed;
      outcome = a.outcome;
      stage = ap (λ (z : World). slice_get z.stages i) t.new_is ∙ set-same w.stages i (stages.Asks (xid_after a.xid) a.next) (stages.Asks a.xid a.initiator) a.stage;
      is = refl;
      comes = subst (λ (z : World). Negotiates a.n z.book.core a.after) (sym t.new_is) a.waits;
      xids = omega (arith, xid_is, a.xids);
      rounds = a.rounds;
      short = a.short;
      there = λ m among. subst (λ (z : World). AmongMakings z.makings m) (sym t.new_is) (elim (among_split a.made a.took.initiated.makes m among) [
        | inl front ↦ among_front w.makings a.took.initiated.makes m (a.there m front)
        | inr back ↦ among_back w.makings a.took.initiated.makes m back
      ]);
      fixes = λ f e. (let was = a.fixes f e in record { n = was.n; is = sym a.id_is ∙ was.is; listed = listed-grows w new (context_with was.n f) g was.listed });
    } in
    let line : Line = record { draws = s.line.draws; way = Out (call_of (xid_after a.xid) (Some a.n) a.further) } in
    let own_placed : Placed old now plans new i line ids = record {
      pair = p;
      id = placed.id;
      there = placed.there;
      stands = subst (λ (z : Option ℕ). Asking (setting_of p) new i s.line.draws z (call_of (xid_after a.xid) (Some a.n) a.further)) (sym a.id_is) asking;
    } in
    record {
      ids = ids;
      carrying = subst (λ (ls : List Line). Carrying old now plans new ls ids) (sym (s.after_is ∙ ap (λ (h : Option Happened). slice_set lines i (record { draws = s.line.draws; way = out_of h })) t.answer))
          (carry-on old now plans w new lines ids ids i line k (moved-turned old now plans w new lines ids i line (stages.Asks (xid_after a.xid) a.next) a.took.initiated.makes k t.new_is g own_placed));
      unforged = made-all marking w deed (λ m among. inl (a.there m (a.took.found m (subst (λ (ms : List MechMaking). AmongMakings ms m) t.found among)))) issued;
    }

-- the word that a last reply's MIC is over
the-word : (w : World) (i : ℕ) (octets : List ℕ) → (a : IsLast w i octets) → (m : MechMaking) → AmongMakings (window_of a.outcome ∷ []) m → WasMade w m
the-word w i octets a m (inl is) = inr (record {
  context = context_with a.n a.context;
  listed = a.listed;
  settled = a.settled;
  word = word told_width;
  four = four-octets;
  number = 1;
  is_mic = is ∙ ap window_of (sym a.outcome_is);
})
the-word w i octets a m (inr none) = absurd none

not-ready : {A : Type 0} (s : SessionState) (setup : PlainSetup) → Some (stages.Stands s) ≡ Some (stages.Ready setup) → A
not-ready s setup e = absurd cc

returns-last : (old : World) (now : ℕ) (plans : List Plan) (marking : Marking) (w : World) (lines : List Line) (ids : List (Option ℕ)) (i first : ℕ) (octets : List ℕ) (deed : Deed) (new : World) (after : List Line) → Carrying old now plans w lines ids → Happens w (Deliver i octets first) deed new
    → (s : IsReturned lines i octets deed after) → (placed : Placed old now plans w i s.line ids) → IsLast w i octets → Issued marking deed → Stepped old now plans marking w deed new after
returns-last old now plans marking w lines ids i first octets deed new after k happens s placed a issued =
    let t = takes-last w i first a.xid a.n a.initiator a.reply a.made a.took a.outcome a.stage a.done a.xid_fits a.size deed new k.serves (subst (λ (os : List ℕ). Happens w (Deliver i os first) deed new) a.is happens) s.some in
    let g = grows w (Deliver i octets first) deed new happens in
    let line : Line = record { draws = s.line.draws; way = Nowhere } in
    let own_placed : Placed old now plans new i line ids = record {
      pair = placed.pair;
      id = placed.id;
      there = placed.there;
      stands = λ setup e. not-ready _ setup (sym (ap (λ (z : World). slice_get z.stages i) t.new_is ∙ set-same w.stages i _ (stages.Asks a.xid a.initiator) a.stage) ∙ e);
    } in
    record {
      ids = ids;
      carrying = subst (λ (ls : List Line). Carrying old now plans new ls ids) (sym (s.after_is ∙ ap (λ (h : Option Happened). slice_set lines i (record { draws = s.line.draws; way = out_of h })) t.answer))
          (carry-on old now plans w new lines ids ids i line k (moved-turned old now plans w new lines ids i line _ a.took.initiated.makes k t.new_is g own_placed));
      unforged = made-all marking w deed (λ m among. elim (among_split a.took.initiated.found (window_of a.outcome ∷ []) m (subst (λ (ms : List MechMaking). AmongMakings ms m) t.found among)) [
        | inl there ↦ inl (a.there m (a.took.found m there))
        | inr window ↦ the-word w i octets a m window
      ]) issued;
    }

returns-by : (old : World) (now : ℕ) (plans : List Plan) (marking : Marking) (w : World) (lines : List Line) (ids : List (Option ℕ)) (i first : ℕ) (octets : List ℕ) (deed : Deed) (new : World) (after : List Line) → Carrying old now plans w lines ids → Happens w (Deliver i octets first) deed new
    → (s : IsReturned lines i octets deed after) → (placed : Placed old now plans w i s.line ids) → GoesOn (setting_of placed.pair) w i s.line.draws placed.id octets ⊎ IsLast w i octets → Issued marking deed → Stepped old now plans marking w deed new after
returns-by old now plans marking w lines ids i first octets deed new after k happens s placed (inl a) issued = returns-on old now plans marking w lines ids i first octets deed new after k happens s placed a issued
returns-by old now plans marking w lines ids i first octets deed new after k happens s placed (inr a) issued = returns-last old now plans marking w lines ids i first octets deed new after k happens s placed a issued

pub returns : (old : World) (now : ℕ) (plans : List Plan) (marking : Marking) (w : World) (lines : List Line) (ids : List (Option ℕ)) (i first : ℕ) (octets : List ℕ) (deed : Deed) (new : World) (after : List Line) → Carrying old now plans w lines ids → Happens w (Deliver i octets first) deed new
    → IsReturned lines i octets deed after → Issued marking deed → Stepped old now plans marking w deed new after
returns old now plans marking w lines ids i first octets deed new after k happens s issued =
    let placed = k.states i s.line s.there in
    returns-by old now plans marking w lines ids i first octets deed new after k happens s placed (stands-as old now plans w i s.line ids placed (Back octets) s.back) issued

-- ---- a record comes to a lane

-- what the acceptor's end finds in the token
heard-of : (x : Setting) (draws : List ℕ) (rest : List (List ℕ)) (end : AcceptEnd) (initiator : EndSays) (token : List ℕ) (made : List MechMaking) (fixed : List Fixed) (outcome : Outcome) → Rounds x (draws ∷ rest) end initiator token made fixed outcome → Heard x end token (take 66 draws) made fixed
heard-of x draws [] end initiator token made fixed outcome r = r.heard
heard-of x draws (next ∷ later) end initiator token made fixed outcome r = r.0.heard

is-id : (id : Option ℕ) (h : List Entry) → ((n : ℕ) → id ≡ Some n → n ≤ opened h) → length h < 2 ^ 64 → IsId id
is-id None h counted few = tt
is-id (Some n) h counted few = let c = counted n refl in omega (arith, c, opened-few h, few)

id-is : (id : Option ℕ) (h : List Entry) (n : ℕ) → id ≡ Some n → id_of id h ≡ n
id-is id h n e = ap (λ (z : Option ℕ). id_of z h) e

same-head : (a b : Fixed) (xs : List Fixed) → a ∷ xs ≡ b ∷ [] → (a ≡ b) × (xs ≡ [])
same-head a b [] e = (cc, refl)
same-head a b (x ∷ xs) e = absurd cc

-- the context that was fixed up to now, in this event or before it
own-fixes : (c : Case) (deed : Deed) (new : World) → Answers c deed new → Grows c.w new → (fixed : List Fixed) → ((f : Fixed) → fixed ≡ f ∷ [] → Fixes c.w c.id f) → (found : Option Fixed) → c.accepted.fixes ≡ found → (f : Fixed) → fixed ++ option_to_list found ≡ f ∷ [] → Listed new.fixed (context_with (own c) f)
own-fixes c deed new a g [] fixes None e f is = absurd cc
own-fixes c deed new a g [] fixes (Some one) e f is =
    let same : one ≡ f = (same-head one f [] is).0 in
    let new_is : new.fixed ≡ c.w.fixed ++ context_with (own c) f ∷ [] = a.fixed ∙ (ap (λ (z : Option Fixed). c.w.fixed ++ option_to_list (option_map (context_with (own c)) z)) e ∙ ap (λ (z : Fixed). c.w.fixed ++ context_with (own c) z ∷ []) same) in
    record { place = length c.w.fixed; there = ap (λ (xs : List Context). slice_get xs (length c.w.fixed)) new_is ∙ get-last c.w.fixed (context_with (own c) f) }
own-fixes c deed new a g (first ∷ more) fixes found e f is =
    let s = same-head first f (more ++ option_to_list found) is in
    let none : more ≡ [] = front-none more (option_to_list found) s.1 in
    let was = fixes f (λ k. s.0 k ∷ none k) in
    listed-grows c.w new (context_with (own c) f) g (subst (λ (n : ℕ). Listed c.w.fixed (context_with n f)) (sym (id-is c.id c.w.book.core.history was.n was.is)) was.listed)
  where
    front-none : (xs ys : List Fixed) → xs ++ ys ≡ [] → xs ≡ []
    front-none [] ys e = refl
    front-none (x ∷ xs) ys e = absurd cc

-- what is known of the event
record Brought (old : World) (now : ℕ) (plans : List Plan) (w : World) (lines : List Line) (ids : List (Option ℕ)) (lane : ℕ) (draws : List ℕ) (deed : Deed) (new : World) : Type 0 where
  i : ℕ
  line : Line
  there : slice_get lines i ≡ Some line
  rest : List (List ℕ)
  drawn : line.draws ≡ draws ∷ rest
  placed : Placed old now plans w i line ids
  octets : List ℕ
  asking : Asking (setting_of placed.pair) w i line.draws placed.id octets
  idle : slice_get w.lanes lane ≡ Some None
  reply : List ℕ
  sent : deed.answer ≡ Some (Sent reply)
  happens : Happens w (Lane lane octets now draws) deed new
  grew : new.book.core.history ≡ w.book.core.history → ⊥
  lasting : NoEnds new.book.core.history
  few : length w.book.core.history < 2 ^ 64

abbrev setting_in : {old : World} {now : ℕ} {plans : List Plan} {w : World} {lines : List Line} {ids : List (Option ℕ)} {lane : ℕ} {draws : List ℕ} {deed : Deed} {new : World} → Brought old now plans w lines ids lane draws deed new → Setting
setting_in b = setting_of b.placed.pair

rounds-in : (old : World) (now : ℕ) (plans : List Plan) (w : World) (lines : List Line) (ids : List (Option ℕ)) (lane : ℕ) (draws : List ℕ) (deed : Deed) (new : World) → (b : Brought old now plans w lines ids lane draws deed new)
    → Rounds (setting_in b) (draws ∷ b.rest) b.asking.end b.asking.initiator b.asking.token b.asking.made b.asking.fixed b.asking.outcome
rounds-in old now plans w lines ids lane draws deed new b = subst (λ (ds : List (List ℕ)). Rounds (setting_in b) ds b.asking.end b.asking.initiator b.asking.token b.asking.made b.asking.fixed b.asking.outcome) b.drawn b.asking.rounds

abbrev case_of : {old : World} {now : ℕ} {plans : List Plan} {w : World} {lines : List Line} {ids : List (Option ℕ)} {lane : ℕ} {draws : List ℕ} {deed : Deed} {new : World} → Carrying old now plans w lines ids → (b : Brought old now plans w lines ids lane draws deed new)
    → Heard (setting_in b) b.asking.end b.asking.token (take 66 draws) b.asking.made b.asking.fixed → Case
case_of {old} {now} {plans} {w} {lines} {ids} {lane} {draws} {deed} {new} k b heard = record {
  w = w;
  serves = k.serves;
  lane = lane;
  id = b.placed.id;
  xid = b.asking.xid;
  end = b.asking.end;
  token = b.asking.token;
  now = now;
  draws = draws;
  idle = b.idle;
  comes = b.asking.comes;
  accepted = heard.accepted;
  accepts = subst (λ (s : AcceptSetup). accept_step s b.asking.end b.asking.token now (take 66 draws) ≡ Ok heard.accepted) (sym k.setup) heard.accepts;
  xid_fits = omega (arith, b.asking.xids);
  is_id = is-id b.placed.id w.book.core.history (λ n e. k.counted b.i n (b.placed.there ∙ ap Some e)) b.few;
  short = b.asking.short;
}

-- the ids after it: this one is known
distinct : (ids : List (Option ℕ)) (i : ℕ) (id : Option ℕ) (h : List Entry) → slice_get ids i ≡ Some id → ((a b n : ℕ) → slice_get ids a ≡ Some (Some n) → slice_get ids b ≡ Some (Some n) → a ≡ b) → ((a n : ℕ) → slice_get ids a ≡ Some (Some n) → n ≤ opened h)
    → (j n : ℕ) → i ≢ j → slice_get ids j ≡ Some (Some n) → id_of id h ≢ n
distinct ids i None h there apart counted j n ne other e = let few = counted j n other in omega (arith, few, e)
distinct ids i (Some m) h there apart counted j n ne other e = ne (apart i j n (there ∙ ap (λ (z : ℕ). Some (Some z)) e) other)

ids-apart : (ids : List (Option ℕ)) (i m : ℕ) → ((a b n : ℕ) → slice_get ids a ≡ Some (Some n) → slice_get ids b ≡ Some (Some n) → a ≡ b) → ((j n : ℕ) → i ≢ j → slice_get ids j ≡ Some (Some n) → m ≢ n)
    → (a b n : ℕ) → slice_get (slice_set ids i (Some m)) a ≡ Some (Some n) → slice_get (slice_set ids i (Some m)) b ≡ Some (Some n) → a ≡ b
ids-apart ids i m apart others a b n e f = elim (set-cases ids i a (Some m) (Some n) e) [
  | inl p ↦ elim (set-cases ids i b (Some m) (Some n) f) [
    | inl q ↦ sym p.0 ∙ q.0
    | inr q ↦ absurd (others b n q.0 q.1 (same_Some m n (sym p.1)))
  ]
  | inr p ↦ elim (set-cases ids i b (Some m) (Some n) f) [
    | inl q ↦ absurd (others a n p.0 p.1 (same_Some m n (sym q.1)))
    | inr q ↦ apart a b n p.1 q.1
  ]
]

ids-counted : (ids : List (Option ℕ)) (i m : ℕ) (h new : List Entry) → ((a n : ℕ) → slice_get ids a ≡ Some (Some n) → n ≤ opened h) → opened h ≤ opened new → m ≤ opened new → (a n : ℕ) → slice_get (slice_set ids i (Some m)) a ≡ Some (Some n) → n ≤ opened new
ids-counted ids i m h new counted more own_few a n e = elim (set-cases ids i a (Some m) (Some n) e) [
  | inl p ↦ (let is : n ≡ m = same_Some n m p.1 in omega (arith, is, own_few))
  | inr p ↦ (let few = counted a n p.1 in omega (arith, few, more))
]

brought-turned : (old : World) (now : ℕ) (plans : List Plan) (w : World) (lines : List Line) (ids : List (Option ℕ)) (i : ℕ) (line : Line) (c : Case) (deed : Deed) (new : World) → Carrying old now plans w lines ids → c.w ≡ w → (a : Answers c deed new) → Grows w new → slice_get ids i ≡ Some c.id
    → new.book.setup ≡ w.book.setup → Placed old now plans new i line (slice_set ids i (Some (own c))) → Turned old now plans w new i line ids (slice_set ids i (Some (own c)))
brought-turned old now plans w lines ids i line c deed new k is a g there setup placed =
    let counts : (j n : ℕ) → slice_get ids j ≡ Some (Some n) → n ≤ opened c.w.book.core.history = λ j n e. subst (λ (z : World). n ≤ opened z.book.core.history) (sym is) (k.counted j n e) in
    let others = distinct ids i c.id c.w.book.core.history there k.apart counts in
    let more = counted c deed new a (λ n e. counts i n (there ∙ ap Some e)) in
    record {
      setup = setup;
      serves = g.serves;
      own = placed;
      others = λ j id ne at. (
        set-other ids i j (Some (own c)) ne ∙ at,
        record {
          stage = ap (λ (xs : List stages.StageSays). slice_get xs j) (a.stages_are ∙ ap (λ (z : World). z.stages) is);
          waits = λ n end e waits. stays-other c deed new a n end (others j n ne (at ∙ ap Some e)) (subst (λ (z : World). Negotiates n z.book.core end) (sym is) waits);
          grows = g;
        },
      );
      apart = ids-apart ids i (own c) k.apart others;
      counted = ids-counted ids i (own c) c.w.book.core.history new.book.core.history counts more.grows more.own_is;
    }

-- what both ends have handed out
made-there : (c : Case) (deed : Deed) (new : World) → Answers c deed new → (made : List MechMaking) → ((m : MechMaking) → AmongMakings made m → AmongMakings c.w.makings m) → (m : MechMaking) → AmongMakings (made ++ c.accepted.makes) m → AmongMakings new.makings m
made-there c deed new a made there m among = subst (λ (ms : List MechMaking). AmongMakings ms m) (sym a.makings) (elim (among_split made c.accepted.makes m among) [
  | inl front ↦ among_front c.w.makings c.accepted.makes m (there m front)
  | inr back ↦ among_back c.w.makings c.accepted.makes m back
])

-- both are done, or go on
brought-by : (old : World) (now : ℕ) (plans : List Plan) (w : World) (lines : List Line) (ids : List (Option ℕ)) (lane : ℕ) (draws : List ℕ) (deed : Deed) (new : World) → (k : Carrying old now plans w lines ids) → (b : Brought old now plans w lines ids lane draws deed new) → (rest : List (List ℕ)) → length b.line.draws ≡ 1 + length rest
    → (r : Rounds (setting_in b) (draws ∷ rest) b.asking.end b.asking.initiator b.asking.token b.asking.made b.asking.fixed b.asking.outcome)
    → (a : Answers (case_of k b (heard-of (setting_in b) draws rest b.asking.end b.asking.initiator b.asking.token b.asking.made b.asking.fixed b.asking.outcome r)) deed new) → Grows w new
    → GoesOn (setting_in b) new b.i rest (Some (id_of b.placed.id w.book.core.history)) b.reply ⊎ IsLast new b.i b.reply
unfolding heard-of
brought-by old now plans w lines ids lane draws deed new k b [] count r a g =
    let c = case_of k b r.heard in
    let step : step_in c ≡ accept_steps.Done b.asking.outcome r.lasts r.reply = settled-passed r.heard.accepted.step ∙ r.done in
    inr (record {
      n = own c;
      xid = b.asking.xid;
      initiator = b.asking.initiator;
      reply = r.reply;
      made = b.asking.made ++ r.heard.accepted.makes;
      outcome = b.asking.outcome;
      took = r.took;
      done = r.completes;
      size = r.size;
      stage = ap (λ (xs : List stages.StageSays). slice_get xs b.i) a.stages_are ∙ b.asking.stage;
      is = same-octets b.reply (reply_on b.asking.xid (own c) (step_in c)) (sym b.sent ∙ a.answer) ∙ ap (reply_on b.asking.xid (own c)) step;
      xid_fits = omega (arith, b.asking.xids);
      there = made-there c deed new a b.asking.made b.asking.there;
      context = r.context;
      outcome_is = r.outcome_is;
      listed = own-fixes c deed new a g b.asking.fixed b.asking.fixes r.heard.accepted.fixes refl r.context r.fixes;
      settled = settles-own c deed new a b.asking.outcome r.lasts r.reply step;
    })
brought-by old now plans w lines ids lane draws deed new k b (next ∷ later) count r a g =
    let c = case_of k b r.0.heard in
    let step : step_in c ≡ accept_steps.More r.0.after r.0.reply = settled-passed r.0.heard.accepted.step ∙ r.0.goes in
    inl (record {
      n = own c;
      id_is = refl;
      xid = b.asking.xid;
      initiator = b.asking.initiator;
      reply = r.0.reply;
      made = b.asking.made ++ r.0.heard.accepted.makes;
      fixed = b.asking.fixed ++ option_to_list r.0.heard.accepted.fixes;
      outcome = b.asking.outcome;
      took = r.0.took;
      next = r.0.next;
      further = r.0.further;
      more = r.0.more;
      short = r.0.short;
      size = r.0.size;
      after = r.0.after;
      stage = ap (λ (xs : List stages.StageSays). slice_get xs b.i) a.stages_are ∙ b.asking.stage;
      is = same-octets b.reply (reply_on b.asking.xid (own c) (step_in c)) (sym b.sent ∙ a.answer) ∙ ap (reply_on b.asking.xid (own c)) step;
      waits = goes-own c deed new a r.0.after r.0.reply step;
      xids = omega (arith, b.asking.xids, count);
      rounds = r.1;
      there = made-there c deed new a b.asking.made b.asking.there;
      fixes = λ f e. record { n = own c; is = refl; listed = own-fixes c deed new a g b.asking.fixed b.asking.fixes r.0.heard.accepted.fixes refl f e };
    })

brings : (old : World) (now : ℕ) (plans : List Plan) (marking : Marking) (w : World) (lines : List Line) (ids : List (Option ℕ)) (lane : ℕ) (draws : List ℕ) (deed : Deed) (new : World) → (k : Carrying old now plans w lines ids) → (b : Brought old now plans w lines ids lane draws deed new) → Issued marking deed
    → Stepped old now plans marking w deed new (slice_set lines b.i (record { draws = b.rest; way = Back b.reply }))
brings old now plans marking w lines ids lane draws deed new k b issued =
    let r = rounds-in old now plans w lines ids lane draws deed new b in
    let heard = heard-of (setting_in b) draws b.rest b.asking.end b.asking.initiator b.asking.token b.asking.made b.asking.fixed b.asking.outcome r in
    let c = case_of k b heard in
    let a = answers-so c (Sent b.reply) deed new (subst (λ (os : List ℕ). Happens w (Lane lane os now draws) deed new) b.asking.is b.happens) b.sent b.grew b.lasting in
    let g = grows w (Lane lane b.octets now draws) deed new b.happens in
    let count : length b.line.draws ≡ 1 + length b.rest = (let e : length b.line.draws ≡ length (draws ∷ b.rest) = ap length b.drawn in omega (arith, e)) in
    let after = brought-by old now plans w lines ids lane draws deed new k b b.rest count r a g in
    let line : Line = record { draws = b.rest; way = Back b.reply } in
    let placed : Placed old now plans new b.i line (slice_set ids b.i (Some (own c))) = record { pair = b.placed.pair; id = Some (own c); there = set-same ids b.i (Some (own c)) b.placed.id b.placed.there; stands = after } in
    record {
      ids = slice_set ids b.i (Some (own c));
      carrying = carry-on old now plans w new lines ids (slice_set ids b.i (Some (own c))) b.i line k (brought-turned old now plans w lines ids b.i line c deed new k refl a g b.placed.there g.setup placed);
      unforged = made-all marking w deed (λ m among. inl (b.asking.there m (heard.found m (subst (λ (ms : List MechMaking). AmongMakings ms m) a.found among)))) issued;
    }

pub brings-on : (old : World) (now : ℕ) (plans : List Plan) (marking : Marking) (w : World) (lines : List Line) (ids : List (Option ℕ)) (lane : ℕ) (octets : List ℕ) (at : ℕ) (draws : List ℕ) (deed : Deed) (new : World) (after : List Line) → Carrying old now plans w lines ids → Happens w (Lane lane octets at draws) deed new
    → IsBrought now lines lane octets at draws deed w new after → NoEnds new.book.core.history → length w.book.core.history < 2 ^ 64 → Issued marking deed → Stepped old now plans marking w deed new after
brings-on old now plans marking w lines ids lane octets at draws deed new after k happens s lasting few issued =
    let placed = k.states s.i s.line s.there in
    let b : Brought old now plans w lines ids lane draws deed new = record {
      i = s.i;
      line = s.line;
      there = s.there;
      rest = s.rest;
      drawn = s.drawn;
      placed = placed;
      octets = octets;
      asking = stands-as old now plans w s.i s.line ids placed (Out octets) s.out;
      idle = s.idle;
      reply = s.reply;
      sent = s.sent;
      happens = subst (λ (m : ℕ). Happens w (Lane lane octets m draws) deed new) s.at_is happens;
      grew = s.logged;
      lasting = lasting;
      few = few;
    } in
    subst (λ (ls : List Line). Stepped old now plans marking w deed new ls) (sym s.after_is) (brings old now plans marking w lines ids lane draws deed new k b issued)

-- ---- any event

pub steps-on : (old : World) (now : ℕ) (plans : List Plan) (marking : Marking) (w : World) (lines : List Line) (ids : List (Option ℕ)) (event : WorldEvent) (deed : Deed) (new : World) (after : List Line) → Carrying old now plans w lines ids → Happens w event deed new
    → CarriedBy now lines event deed w new after → NoEnds new.book.core.history → length w.book.core.history < 2 ^ 64 → Issued marking deed → Stepped old now plans marking w deed new after
steps-on old now plans marking w lines ids (Start i) deed new after k happens s lasting few issued = starts-on old now plans marking w lines ids i deed new after k happens s issued
steps-on old now plans marking w lines ids (Deliver i octets first) deed new after k happens s lasting few issued = returns old now plans marking w lines ids i first octets deed new after k happens s issued
steps-on old now plans marking w lines ids (Lane lane octets at draws) deed new after k happens s lasting few issued = brings-on old now plans marking w lines ids lane octets at draws deed new after k happens s lasting few issued
steps-on old now plans marking w lines ids (CallBy i procedure args) deed new after k happens s lasting few issued = absurd s
