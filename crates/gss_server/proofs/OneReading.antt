-- A stream of records has one reading and so one end.
use Rattle.std.proofs.Common.{◌≡◌, ◌≢◌, inl, inr, ℕ, suc, ◌+◌, ◌<◌, ◌≤◌, List, [], ◌∷◌, ◌++◌, length, refl, ap, sym, ◌∙◌, subst, arith, append_assoc, cond, Bool, IsTrue, true, false, ltb, eqb, Option, Some, None}
use Rattle.std.specs.List.{AllByRecursion}
use Rattle.std.proofs.lemmas.Bool.{cases_lt}
use Rattle.std.proofs.lemmas.List.{append-nil, append_cancel_left}
use Rattle.std.proofs.lemmas.Bool.Decides.{nat_tests}
use Rattle.sec_base.specs.Link.{Wire, IsOver}
use Rattle.rpc_msgs.specs.Records.{Fragments, octets_in, frame, IsRecord}
use Rattle.rpc_msgs.specs.Reading.{First, nothing, short, long, many, whole, first_record}
use Rattle.rpc_msgs.proofs.Readings.{first-none, of-frame, of-too-long, of-too-many, of-torn}
use Rattle.rpc_program.specs.Programs.{Serving}
use Rattle.gss_server.specs.declared.answer.Kept.{Kept}
use Rattle.gss_server.specs.declared.connection.ConnEnd.{ConnEnd}
use Rattle.gss_server.specs.declared.connection.ConnEnd.TheVariants.{Ended, LinkFault, TooLong, TooManyFragments, Torn, Budget, NoMemory, Lost}
use Rattle.gss_server.specs.Connections.{octets_of, Behind, Counts, Ends, OnWire, StreamEnds}

-- the end that a stream shows after so many records, where it shows one
end_at : First → Option ConnEnd
end_at nothing = Some Ended
end_at short = Some Torn
end_at long = Some TooLong
end_at many = Some TooManyFragments
end_at (whole octets more) = None

end_after : ℕ → First → Option ConnEnd
end_after count first = cond (ltb count 65536) (end_at first) (cond (eqb count 65536) (Some Budget) None)

Shows : ConnEnd → List ℕ → ℕ → Type 0
Shows ending rest count = end_after count (first_record rest) ≡ Some ending

at-first : (count : ℕ) (rest : List ℕ) (first : First) (ending : ConnEnd) → count < 65536 → first_record rest ≡ first → end_at first ≡ Some ending → Shows ending rest count
unfolding Shows end_after
at-first count rest first ending h e f =
    let g : ltb count 65536 ≡ true = grind (arith, nat_tests) in rw (e, g) f

at-budget : (count : ℕ) (rest : List ℕ) → count ≡ 65536 → Shows Budget rest count
unfolding Shows end_after
at-budget count rest e = rw e refl

shown : (ending : ConnEnd) (rest : List ℕ) (count : ℕ) → Ends ending rest count → Shows ending rest count
unfolding end_at
shown Ended rest count e = at-first count rest nothing Ended e.1 (ap first_record e.0 ∙ first-none) refl
shown LinkFault rest count e = absurd e
shown TooLong rest count e = at-first count rest long TooLong e.4 (ap first_record e.3 ∙ of-too-long e.0 e.1 e.2) refl
shown TooManyFragments rest count e = at-first count rest many TooManyFragments e.4 (ap first_record e.3 ∙ of-too-many e.0 e.1 e.2) refl
shown Torn rest count e = at-first count rest short Torn e.1 (of-torn rest e.0) refl
shown Budget rest count e = at-budget count rest e
shown NoMemory rest count e = absurd e
shown Lost rest count e = absurd e

most : (ending : ConnEnd) (rest : List ℕ) (count : ℕ) → Shows ending rest count → count ≤ 65536
unfolding Shows end_after
most ending rest count e =
    elim (cases_lt count 65537) [
      | inl less ↦ omega arith
      | inr past ↦
          let f : ltb count 65536 ≡ false = grind (arith, nat_tests) in
          let g : eqb count 65536 ≡ false = grind (arith, nat_tests) in
          let h : None ≡ Some ending = rw (f, g) at e in cc
    ]

-- where a record follows, only the budget ends
full : (ending : ConnEnd) (rest octets more : List ℕ) (count : ℕ) → first_record rest ≡ whole octets more → Shows ending rest count → 65536 ≤ count
unfolding Shows end_after end_at
full ending rest octets more count w e =
    elim (cases_lt count 65536) [
      | inl less ↦ let f : ltb count 65536 ≡ true = grind (arith, nat_tests) in let h : None ≡ Some ending = rw (w, f) at e in cc
      | inr past ↦ past
    ]

same-end : (one two : ConnEnd) (rest : List ℕ) (count : ℕ) → Shows one rest count → Shows two rest count → one ≡ two
unfolding Shows
same-end one two rest count p q = let h : Some one ≡ Some two = sym p ∙ q in cc

rest_of : First → List ℕ
rest_of nothing = []
rest_of short = []
rest_of long = []
rest_of many = []
rest_of (whole octets more) = more

-- what follows the first record of two readings is one
same-rest : (r s : Fragments) (xs ys : List ℕ) → IsRecord r → IsRecord s → frame r ++ xs ≡ frame s ++ ys → xs ≡ ys
unfolding rest_of
same-rest r s xs ys h k e =
    let f : whole (octets_in r) xs ≡ whole (octets_in s) ys = sym (of-frame r xs h) ∙ (ap first_record e ∙ of-frame s ys k) in
    ap rest_of f

one-end : (before : ℕ) (rs ss : List Fragments) (xs ys : List ℕ) (one two : ConnEnd) → octets_of rs ++ xs ≡ octets_of ss ++ ys → AllByRecursion IsRecord rs → AllByRecursion IsRecord ss → Shows one xs (before + length rs) → Shows two ys (before + length ss) → one ≡ two
one-end before [] [] xs ys one two e all also p q =
    same-end one two xs (before + 0) p (subst (λ (zs : List ℕ). Shows two zs (before + 0)) (sym e) q)
one-end before [] (s ∷ ss) xs ys one two e all also p q =
    let f : first_record xs ≡ whole (octets_in s) (octets_of ss ++ ys) = ap first_record (e ∙ append_assoc (frame s) (octets_of ss) ys) ∙ of-frame s (octets_of ss ++ ys) also.0 in
    absurd (omega (arith, full one xs (octets_in s) (octets_of ss ++ ys) (before + 0) f p, most two ys (before + suc (length ss)) q))
one-end before (r ∷ rs) [] xs ys one two e all also p q =
    let f : first_record ys ≡ whole (octets_in r) (octets_of rs ++ xs) = ap first_record (sym e ∙ append_assoc (frame r) (octets_of rs) xs) ∙ of-frame r (octets_of rs ++ xs) all.0 in
    absurd (omega (arith, full two ys (octets_in r) (octets_of rs ++ xs) (before + 0) f q, most one xs (before + suc (length rs)) p))
one-end before (r ∷ rs) (s ∷ ss) xs ys one two e all also p q =
    let more : octets_of rs ++ xs ≡ octets_of ss ++ ys = same-rest r s (octets_of rs ++ xs) (octets_of ss ++ ys) all.0 also.0 (sym (append_assoc (frame r) (octets_of rs) xs) ∙ (e ∙ append_assoc (frame s) (octets_of ss) ys)) in
    let n : before + suc (length rs) ≡ suc before + length rs = omega arith in
    let m : before + suc (length ss) ≡ suc before + length ss = omega arith in
    one-end (suc before) rs ss xs ys one two more all.1 also.1 (subst (λ (k : ℕ). Shows one xs k) n p) (subst (λ (k : ℕ). Shows two ys k) m q)

caused : (ending : ConnEnd) (rest coming : List ℕ) (count : ℕ) → ending ≢ LinkFault → ending ≢ NoMemory → ending ≢ Lost → Behind ending rest (coming ≡ []) → Counts ending count → Shows ending (rest ++ coming) count
unfolding end_at
caused Ended rest coming count clear none known h n = shown Ended (rest ++ coming) count (let e = h.0 in let f = h.1 in rw (e, f) refl, n)
caused LinkFault rest coming count clear none known h n = absurd (clear refl)
caused TooLong rest coming count clear none known h n = at-first count (rest ++ coming) long TooLong n (of-too-long rest coming h) refl
caused TooManyFragments rest coming count clear none known h n = at-first count (rest ++ coming) many TooManyFragments n (of-too-many rest coming h) refl
caused Torn rest coming count clear none known h n =
    at-first count (rest ++ coming) short Torn n (ap (λ (zs : List ℕ). first_record (rest ++ zs)) h.1 ∙ (ap first_record (append-nil rest) ∙ of-torn rest h.0)) refl
caused Budget rest coming count clear none known h n = at-budget count (rest ++ coming) n
caused NoMemory rest coming count clear none known h n = absurd (none refl)
caused Lost rest coming count clear none known h n = absurd (known refl)

-- what is behind the records, of a link that tells its octets
told-behind : (told : Bool) (new : Wire) (ending : ConnEnd) (rest : List ℕ) → IsTrue told → Behind ending rest (IsOver told new) → Behind ending rest (new.coming ≡ [])
told-behind told new Ended rest t h = (h.0, h.1 t)
told-behind told new LinkFault rest t h = h
told-behind told new TooLong rest t h = h
told-behind told new TooManyFragments rest t h = h
told-behind told new Torn rest t h = (h.0, h.1 t)
told-behind told new Budget rest t h = h
told-behind told new NoMemory rest t h = h
told-behind told new Lost rest t h = h

-- a connection that neither failed nor wanted memory, nor ended at a call of which it isn't known
-- what became, has the end of its stream
pub comes : {told : Bool} {serves : Serving} {old new : Wire} {records : List Fragments} {kept : List Kept} (ending expected : ConnEnd) → IsTrue told → OnWire told serves old new records kept ending → Counts ending (length records) → StreamEnds old new expected → ending ≢ LinkFault → ending ≢ NoMemory → ending ≢ Lost → ending ≡ expected
comes {told = told} {old = old} {new = new} {records = records} ending expected t s n e clear none known =
    let same : octets_of records ++ s.rest ≡ e.took = append_cancel_left old.taken (octets_of records ++ s.rest) e.took (sym s.went.taken ∙ e.taken) in
    let stream : octets_of records ++ (s.rest ++ new.coming) ≡ octets_of e.records ++ e.rest = sym (append_assoc (octets_of records) s.rest new.coming) ∙ (ap (λ (zs : List ℕ). zs ++ new.coming) same ∙ e.stream) in
    one-end 0 records e.records (s.rest ++ new.coming) e.rest ending expected stream s.each e.each
    (subst (λ (k : ℕ). Shows ending (s.rest ++ new.coming) k) (omega arith) (caused ending s.rest new.coming (length records) clear none known (told-behind told new ending s.rest t s.behind) n))
    (subst (λ (k : ℕ). Shows expected e.rest k) (omega arith) (shown expected e.rest (length e.records) e.ends))
