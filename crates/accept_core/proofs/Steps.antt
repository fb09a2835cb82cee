-- What a step leaves of the whole state.
use Rattle.std.proofs.Common.{◌≡◌, ℕ, ◌+◌, ◌-◌, ◌<◌, ◌≤◌, true, ◌==◌, nat_lt, nat_le, List, [], ◌∷◌, ◌++◌, Option, None, Some, length, reverse, refl, sym, ◌∙◌, ap, subst, inl, inr, arith, IsSomeAnd, is_some}
use Rattle.std.proofs.lemmas.List.{reverse-append}
use Rattle.std.proofs.lemmas.Bool.{cases_Bool, ltb-true, ltb-false, leb-false, le-leb, lt-ltb, le-ltb, eqb-true, and_parts, or_parts}
use Rattle.std.specs.Prelude.{nat_eq}
use Rattle.std.specs.Cmp.Lexicographic.{pointwise}
use Rattle.gss_base.specs.declared.mark.Mark.{Mark}
use Rattle.replay_cache.specs.declared.cache.TakenMark.{TakenMark}
use Rattle.replay_cache.specs.declared.cache.CacheVerdict.TheVariants as verdicts
use Rattle.replay_cache.specs.Taking.{place_of, kept_of, is_recent, is_stale, same_mark, skew, cache_verdict, or_repeat, Cached, Holds}
use Rattle.accept_core.specs.Entering.{gained}
use Rattle.seq_window.specs.Marks.{greatest, is_in}
use Rattle.context_table.specs.Places.{Places, slot_at, slot_in, WideAt}
use Rattle.context_table.specs.declared.slot.Slot.{Slot}
use Rattle.accept_core.specs.declared.entry.Entry.{Entry}
use Rattle.accept_core.specs.declared.answer.AdmitRefusal.TheVariants as admits
use Rattle.accept_core.specs.Logs.{LogOf, greatest_log}
use Rattle.accept_core.specs.History.{standing, numbers, opened, is_whole}
use Rattle.accept_core.specs.Aging.{in_use, most_whole}
use Rattle.accept_core.specs.Answers.{refused, Free}
use Rattle.accept_core.specs.Replays.{Naming, Replays, IsCore}
use Rattle.accept_core.proofs.Appended.{wide-slot}

-- an entry at the end of the log is the newest of the history
pub added : (entries : List Entry) (entry : Entry) → reverse (entries ++ entry ∷ []) ≡ entry ∷ reverse entries
added entries entry = reverse-append entries (entry ∷ [])

pub core-added : {N S : Type 0} (naming : Naming S) (log : LogOf) (given given-after most : ℕ) (table table-after : Places N S) (cache cache-after : Cached) (entry : Entry)
    → IsCore naming log given most table cache → length (reverse log.entries) < log.limit
    → Replays naming log.width (entry ∷ reverse log.entries) table-after cache-after
    → given-after ≡ opened (entry ∷ reverse log.entries) → table-after.limit ≡ table.limit → cache-after.capacity ≡ cache.capacity
    → table-after.used ≡ in_use (entry ∷ reverse log.entries) → length (in_use (entry ∷ reverse log.entries)) ≤ most
    → IsCore naming (record log { entries = log.entries ++ entry ∷ [] }) given-after most table-after cache-after
core-added naming log given given-after most table table-after cache cache-after entry core room replays ids contexts marks used share = record {
  replays = subst (λ (h : List Entry). Replays naming log.width h table-after cache-after) (sym (added log.entries entry)) replays;
  ids = ids ∙ ap opened (sym (added log.entries entry));
  few = subst (λ (h : List Entry). length h ≤ log.limit) (sym (added log.entries entry)) (omega (arith, room));
  small = core.small;
  contexts = core.contexts ∙ sym contexts;
  whole = core.whole ∙ ap most_whole (sym contexts);
  used = used ∙ ap in_use (sym (added log.entries entry));
  share = subst (λ (h : List Entry). length (in_use h) ≤ most) (sym (added log.entries entry)) share;
  marks = core.marks ∙ sym marks;
}

-- a number that isn't refused may be called, and there is room
pub free-from : (limit width : ℕ) (h : List Entry) (id seq : ℕ) → None ≡ refused limit width h id seq → Free limit width h id seq
free-from limit width h id seq e =
    elim (cases_Bool (is_whole (standing id h))) [
      | inr gone ↦ let f : None ≡ Some admits.Gone = rw gone at e in absurd cc
      | inl whole ↦
          let e1 = rw whole at e in
          elim (cases_Bool (nat_lt 0x80000000 seq)) [
            | inl big ↦ let f : None ≡ Some admits.AboveMax = rw big at e1 in absurd cc
            | inr small ↦
                let e2 = rw small at e1 in
                elim (cases_Bool (nat_le (seq + width) (greatest (numbers id h)))) [
                  | inl below ↦ let f : None ≡ Some (admits.Below (greatest (numbers id h))) = rw below at e2 in absurd cc
                  | inr above ↦
                      let e3 = rw above at e2 in
                      elim (cases_Bool (is_in seq (numbers id h))) [
                        | inl twice ↦ let f : None ≡ Some admits.Repeat = rw twice at e3 in absurd cc
                        | inr new ↦
                            let e4 = rw new at e3 in
                            elim (cases_Bool (nat_lt (length h) limit)) [
                              | inr full ↦ let f : None ≡ Some admits.LogFull = rw full at e4 in absurd cc
                              | inl room ↦ record {
                                may = record {
                                  whole = whole;
                                  new = new;
                                  small = ltb-false 0x80000000 seq small;
                                  above = leb-false (seq + width) (greatest (numbers id h)) above;
                                };
                                room = ltb-true (length h) limit room;
                              }
                            ]
                      ]
                ]
          ]
    ]

pub wide-table : {N S : Type 0} (naming : Naming S) (wide : ℕ) (h : List Entry) (table : Places N S) (cache : Cached) (id : ℕ)
    → Replays naming wide h table cache → WideAt table.width (slot_at table id)
wide-table naming wide h table cache id r =
    subst (λ (w : ℕ). WideAt w (slot_at table id)) (sym r.width) (wide-slot naming wide (standing id h) (numbers id h) (slot_at table id) (r.slots id))

none-of : (place : Option ℕ) (held capacity : ℕ) → or_repeat place held capacity ≡ verdicts.Taken → place ≡ None
none-of None held capacity e = refl
none-of (Some place) held capacity e = let f : verdicts.Repeat place ≡ verdicts.Taken = e in absurd cc

-- a mark that isn't held any more, or never was: it isn't among all that were taken
never-taken : (greatest : ℕ) (taken : List TakenMark) (mark : Mark) → greatest - mark.at ≤ skew → place_of mark (kept_of greatest taken) ≡ None → place_of mark taken ≡ None
never-taken greatest [] mark near none = refl
never-taken greatest (t ∷ ts) mark near none =
    elim (cases_Bool (same_mark t.mark mark)) [
      | inr other ↦
          elim (cases_Bool (is_recent greatest t)) [
            | inl here ↦
                rw other (never-taken greatest ts mark near (rw other at (rw here at none)))
            | inr past ↦ rw other (never-taken greatest ts mark near (rw past at none))
          ]
      | inl same ↦
          let times : t.mark.at ≡ mark.at = eqb-true t.mark.at mark.at (and_parts (pointwise nat_eq t.mark.who mark.who) (t.mark.at == mark.at) same).1 in
          let here : is_recent greatest t ≡ true = le-leb (greatest - t.mark.at) skew (omega (arith, near, times)) in
          let f : Some t.place ≡ None = rw same at (rw here at none) in absurd cc
    ]

pub record Untaken (greatest : ℕ) (taken : List TakenMark) (mark : Mark) : Type 0 where
  pub new : place_of mark taken ≡ None
  pub early : greatest - mark.at ≤ skew
  pub late : mark.at - greatest ≤ skew

-- what the verdict Taken tells
pub taken-from : (capacity greatest : ℕ) (taken : List TakenMark) (mark : Mark) → cache_verdict capacity greatest taken mark ≡ verdicts.Taken → Untaken greatest taken mark
taken-from capacity greatest taken mark e =
    elim (cases_Bool (is_stale greatest mark)) [
      | inl stale ↦ let f : verdicts.Stale greatest ≡ verdicts.Taken = rw stale at e in absurd cc
      | inr fresh ↦
          let sides = or_parts (nat_lt skew (greatest - mark.at)) (nat_lt skew (mark.at - greatest)) fresh in
          let early : greatest - mark.at ≤ skew = ltb-false skew (greatest - mark.at) sides.0 in
          record {
            new = never-taken greatest taken mark early
                (none-of (place_of mark (kept_of greatest taken)) (length (kept_of greatest taken)) capacity (rw fresh at e));
            early = early;
            late = ltb-false skew (mark.at - greatest) sides.1;
          }
    ]

-- the receipts of a stretch of the log
pub gained-none : (from : ℕ) (h : List Entry) → length h ≤ from → gained from h ≡ []
gained-none from [] le = refl
gained-none from (entry ∷ h) le = rw (lt-ltb (length h) from (omega (arith, le))) refl

pub gained-more : (from : ℕ) (h : List Entry) (entry : Entry) → from ≤ length h → gained from (entry ∷ h) ≡ gained from h ++ (record { place = length h; entry = entry }) ∷ []
gained-more from h entry le = rw (le-ltb (length h) from le) refl

pub some-and : {X : Type 0} (P : X → Type 0) (o : Option X) → IsSomeAnd o P → is_some o ≡ true
some-and P None h = absurd h
some-and P (Some x) h = refl

slot-none : {N S : Type 0} (slots : List (Slot N S)) (id : ℕ) → slots ≡ [] → slot_in slots id ≡ None
slot-none slots id e = ap (λ (l : List (Slot _ _)). slot_in l id) e

-- a state with an empty log
pub core-new : {N S : Type 0} (naming : Naming S) (log : LogOf) (table : Places N S) (cache : Cached) → log.entries ≡ [] → table.slots ≡ []
    → table.used ≡ [] → table.width ≡ log.width → Holds cache [] → log.limit ≤ greatest_log → log.contexts ≡ table.limit → log.marks ≡ cache.capacity
    → IsCore naming log 0 (most_whole table.limit) table cache
core-new naming log table cache entries slots unused wide holds small contexts marks = record {
  replays = subst (λ (l : List Entry). Replays naming log.width (reverse l) table cache) (sym entries) (record {
    legal = tt;
    slots = λ id. rw (slot-none table.slots id slots) tt;
    live = ap (λ (l : List (Slot _ _)). length l) slots;
    width = wide;
    past = omega arith;
    marks = holds;
  });
  ids = ap (λ (l : List Entry). opened (reverse l)) (sym entries);
  few = subst (λ (l : List Entry). length (reverse l) ≤ log.limit) (sym entries) (omega arith);
  small = small;
  contexts = contexts;
  whole = refl;
  used = unused ∙ ap (λ (l : List Entry). in_use (reverse l)) (sym entries);
  share = subst (λ (l : List Entry). length (in_use (reverse l)) ≤ most_whole table.limit) (sym entries) (omega arith);
  marks = marks;
}
