-- A verifier file is refused at its first bad line, or at the first whose name stood before.
use Rattle.std.proofs.Common.{◌≡◌, ◌⊎◌, ℕ, zero, suc, ◌+◌, ◌≤◌, inl, inr, Bool, true, false, cond, List, [], ◌∷◌, ◌++◌, length, Result, Ok, Err, refl, sym, ap, ◌∙◌, arith, subst, append_assoc, length-append}
use Rattle.std.proofs.lemmas.List.{append-nil}
use Rattle.scram_mech.specs.declared.verifiers.Verifier.{Verifier}
use Rattle.scram_mech.specs.declared.refusal.Stuck.{Stuck}
use Rattle.scram_mech.specs.declared.refusal.VerifierRefusal.{VerifierRefusal}
use Rattle.scram_mech.specs.declared.refusal.VerifierRefusal.TheVariants.{Line, Twice}
use Rattle.scram_mech.specs.Reading.{◌>>=◌}
use Rattle.scram_mech.specs.Digits.{number_of}
use Rattle.scram_mech.specs.Formats.{piece, pieces}
use Rattle.scram_mech.specs.Judging.{are_rounds}
use Rattle.scram_mech.specs.Verifiers.{line_format, verifier_of, bad_line, line_from, line_at, lines_at, line_for, is_there, once, verifiers_of, line_text}
use Rattle.scram_mech.specs.VerifierFile.{IsLine, AreLines, NotNamed, NamedOnce, lines_text}
use Rattle.scram_mech.specs.FilePlaces.{BadLine, NamedTwice}
use Rattle.scram_mech.proofs.FileLaws.{line_read, line-found, line-only, some_text, lines-found, unnamed, absent}

abbrev refused : {A : Type 0} → VerifierRefusal → Result A VerifierRefusal
refused refusal = Err refusal

refusal_is : {A : Type 0} (a b : VerifierRefusal) → refused {A = A} a ≡ refused {A = A} b → a ≡ b
refusal_is a b e = cc

clash : (b : Bool) → b ≡ false → b ≡ true → ⊥
clash b e f = cc

bind_refused : {A B : Type 0} (r : Result A VerifierRefusal) (f : A → Result B VerifierRefusal) (d : VerifierRefusal) → (r >>= f) ≡ refused {A = B} d → (r ≡ refused {A = A} d) ⊎ ((x : A) × (r ≡ Ok x) × (f x ≡ refused {A = B} d))
bind_refused {A} {B} (Ok x) f d e = inr (x, refl, e)
bind_refused {A} {B} (Err c) f d e = inl (ap (λ (x : VerifierRefusal). refused {A = A} x) (refusal_is {A = B} c d e))

-- ---- a bad line

bad_by : (number : ℕ) (values : List (List ℕ)) (back : List ℕ) (d : VerifierRefusal) (b : Bool) → cond b (line_read (verifier_of values) back) (bad_line number) ≡ refused {A = Verifier × List ℕ} d → d ≡ Line number
bad_by number values back d true e = absurd cc
bad_by number values back d false e = sym (refusal_is {A = Verifier × List ℕ} (Line number) d e)

bad_from : (number : ℕ) (r : Result (List (List ℕ) × List ℕ) Stuck) (d : VerifierRefusal) → line_from number r ≡ refused {A = Verifier × List ℕ} d → d ≡ Line number
bad_from number (Err stuck) d e = sym (refusal_is {A = Verifier × List ℕ} (Line number) d e)
bad_from number (Ok x) d e = bad_by number x.0 x.1 d (are_rounds (number_of (piece x.0 1))) e

line_bad : (number : ℕ) (octets : List ℕ) (d : VerifierRefusal) → line_at number octets ≡ refused {A = Verifier × List ℕ} d → d ≡ Line number
unfolding line_at
line_bad number octets d e = bad_from number (pieces line_format octets) d e

not_line : (number : ℕ) (octets back : List ℕ) (line : Verifier) (d : VerifierRefusal) → line_at number octets ≡ refused {A = Verifier × List ℕ} d → IsLine line → octets ≡ line_text line ++ back → ⊥
not_line number octets back line d e is same = let f : refused {A = Verifier × List ℕ} d ≡ line_read line back = sym e ∙ (ap (line_at number) same ∙ line-only number line back is) in cc

pub record BadFrom (number : ℕ) (octets : List ℕ) (refusal : VerifierRefusal) : Type 0 where
  pub lines : List Verifier
  pub rest : List ℕ
  pub each : AreLines lines
  pub same : octets ≡ lines_text lines ++ rest
  pub some : 1 ≤ length rest
  pub bad : (line : Verifier) (back : List ℕ) → IsLine line → rest ≡ line_text line ++ back → ⊥
  pub place : refusal ≡ Line (number + length lines)

none_more : (number : ℕ) → number ≡ number + 0
none_more number = omega arith

one_more : (number n : ℕ) → number + 1 + n ≡ number + suc n
one_more number n = omega arith

ok_bad : (lines : List Verifier) (d : VerifierRefusal) → Ok lines ≡ refused {A = List Verifier} d → ⊥
ok_bad lines d e = cc

lines_bad : (most number : ℕ) (octets : List ℕ) (d : VerifierRefusal) → length octets ≤ most → lines_at most number octets ≡ refused {A = List Verifier} d → BadFrom number octets d
unfolding lines_at
lines_bad zero number octets d few e = absurd (ok_bad [] d e)
lines_bad (suc most) number [] d few e = absurd (ok_bad [] d e)
lines_bad (suc most) number (o ∷ os) d few e =
    elim (bind_refused (line_at number (o ∷ os)) (λ x. lines_at most (number + 1) x.1 >>= (λ others. Ok (x.0 ∷ others))) d e) [
      | inl a ↦ record {
        lines = [];
        rest = o ∷ os;
        each = tt;
        same = refl;
        some = omega arith;
        bad = λ line back is same. not_line number (o ∷ os) back line d a is same;
        place = line_bad number (o ∷ os) d a ∙ ap Line (none_more number);
      }
      | inr b ↦
          let f = line-found number (o ∷ os) b.0.0 b.0.1 b.1 in
          let less : length b.0.1 ≤ most = omega (arith, few, ap length f.same, length-append (line_text b.0.0) b.0.1, some_text b.0.0 f.is) in
          let refused_rest : lines_at most (number + 1) b.0.1 ≡ refused {A = List Verifier} d = rest_refused (lines_at most (number + 1) b.0.1) b.0.0 d b.2 in
          let r = lines_bad most (number + 1) b.0.1 d less refused_rest in
          record {
            lines = b.0.0 ∷ r.lines;
            rest = r.rest;
            each = (f.is, r.each);
            same = f.same ∙ (ap (λ (os : List ℕ). line_text b.0.0 ++ os) r.same ∙ sym (append_assoc (line_text b.0.0) (lines_text r.lines) r.rest));
            some = r.some;
            bad = r.bad;
            place = r.place ∙ ap Line (one_more number (length r.lines));
          }
    ]
  where
    rest_refused : (r : Result (List Verifier) VerifierRefusal) (line : Verifier) (d : VerifierRefusal) → (r >>= (λ others. Ok (line ∷ others))) ≡ refused {A = List Verifier} d → r ≡ refused {A = List Verifier} d
    rest_refused (Ok others) line d e = absurd (ok_bad (line ∷ others) d e)
    rest_refused (Err c) line d e = e

-- ---- a name that stands twice

pub record TwiceFrom (before : List Verifier) (number : ℕ) (lines : List Verifier) (refusal : VerifierRefusal) : Type 0 where
  pub front : List Verifier
  pub line : Verifier
  pub others : List Verifier
  pub same : lines ≡ front ++ line ∷ others
  pub single : NamedOnce before front
  pub again : NotNamed line.name (before ++ front) → ⊥
  pub place : refusal ≡ Twice (number + length front)

unit_bad : (d : VerifierRefusal) → Ok tt ≡ refused {A = Unit {0}} d → ⊥
unit_bad d e = cc

twice_by : (before : List Verifier) (number : ℕ) (line : Verifier) (lines : List Verifier) (d : VerifierRefusal) (b : Bool) → is_there (line_for before line.name) ≡ b
    → cond b (Err (Twice number)) (once (before ++ line ∷ []) (number + 1) lines) ≡ refused {A = Unit {0}} d
    → (once (before ++ line ∷ []) (number + 1) lines ≡ refused {A = Unit {0}} d → TwiceFrom (before ++ line ∷ []) (number + 1) lines d) → TwiceFrom before number (line ∷ lines) d
twice_by before number line lines d true there e more = record {
  front = [];
  line = line;
  others = lines;
  same = refl;
  single = tt;
  again = λ none. clash (is_there (line_for before line.name)) (absent before line.name (subst (NotNamed line.name) (append-nil before) none)) there;
  place = sym (refusal_is {A = Unit {0}} (Twice number) d e) ∙ ap Twice (none_more number);
}
twice_by before number line lines d false there e more =
    let r = more e in
    record {
      front = line ∷ r.front;
      line = r.line;
      others = r.others;
      same = ap (λ (ls : List Verifier). line ∷ ls) r.same;
      single = (unnamed before line.name there, r.single);
      again = λ none. r.again (subst (NotNamed r.line.name) (sym (append_assoc before (line ∷ []) r.front)) none);
      place = r.place ∙ ap Twice (one_more number (length r.front));
    }

twice : (before : List Verifier) (number : ℕ) (lines : List Verifier) (d : VerifierRefusal) → once before number lines ≡ refused {A = Unit {0}} d → TwiceFrom before number lines d
unfolding once
twice before number [] d e = absurd (unit_bad d e)
twice before number (line ∷ lines) d e = twice_by before number line lines d (is_there (line_for before line.name)) refl e (λ f. twice (before ++ line ∷ []) (number + 1) lines d f)

-- ---- the file

pub record NamesTwice (octets : List ℕ) (refusal : VerifierRefusal) : Type 0 where
  pub lines : List Verifier
  pub each : AreLines lines
  pub same : octets ≡ lines_text lines
  pub names : TwiceFrom [] 1 lines refusal

refused_file : (octets : List ℕ) (d : VerifierRefusal) → verifiers_of octets ≡ refused {A = List Verifier} d → BadFrom 1 octets d ⊎ NamesTwice octets d
unfolding verifiers_of
refused_file octets d e =
    elim (bind_refused (lines_at (length octets) 1 octets) (λ ls. once [] 1 ls >>= (λ single. Ok ls)) d e) [
      | inl a ↦ inl (lines_bad (length octets) 1 octets d (omega arith) a)
      | inr b ↦
          let f = lines-found (length octets) 1 octets b.0 (omega arith) b.1 in
          let t : once [] 1 b.0 ≡ refused {A = Unit {0}} d = single_refused (once [] 1 b.0) b.0 d b.2 in
          inr (record { lines = b.0; each = f.0; same = f.1; names = twice [] 1 b.0 d t })
    ]
  where
    single_refused : (r : Result (Unit {0}) VerifierRefusal) (lines : List Verifier) (d : VerifierRefusal) → (r >>= (λ single. Ok lines)) ≡ refused {A = List Verifier} d → r ≡ refused {A = Unit {0}} d
    single_refused (Ok u) lines d e = absurd (ok_bad lines d e)
    single_refused (Err c) lines d e = ap (λ (x : VerifierRefusal). refused {A = Unit {0}} x) (refusal_is {A = List Verifier} c d e)

line_is : (a b : ℕ) → Line a ≡ Line b → a ≡ b
line_is a b e = cc

twice_is : (a b : ℕ) → Twice a ≡ Twice b → a ≡ b
twice_is a b e = cc

not_twice : (a b : ℕ) → Line a ≡ Twice b → ⊥
not_twice a b e = cc

pub file-bad_line : (octets : List ℕ) (number : ℕ) → verifiers_of octets ≡ Err (Line number) → BadLine octets number
file-bad_line octets number e =
    elim (refused_file octets (Line number) e) [
      | inl b ↦ record { lines = b.lines; rest = b.rest; each = b.each; same = b.same; some = b.some; bad = b.bad; place = let p = line_is number (1 + length b.lines) b.place in omega (arith, p) }
      | inr t ↦ absurd (not_twice number (1 + length t.names.front) t.names.place)
    ]

pub file-named_twice : (octets : List ℕ) (number : ℕ) → verifiers_of octets ≡ Err (Twice number) → NamedTwice octets number
file-named_twice octets number e =
    elim (refused_file octets (Twice number) e) [
      | inl b ↦ absurd (not_twice (1 + length b.lines) number (sym b.place))
      | inr t ↦
          let n = t.names in
          record {
            before = n.front;
            line = n.line;
            others = n.others;
            each = subst AreLines n.same t.each;
            same = t.same ∙ ap lines_text n.same;
            single = n.single;
            again = n.again;
            place = let p = twice_is number (1 + length n.front) n.place in omega (arith, p);
          }
    ]
