-- A verifier file is read exactly where it is lines of the grammar.
use Rattle.std.proofs.Common.{◌≡◌, ℕ, zero, suc, ◌+◌, ◌<◌, ◌≤◌, ◌^◌, Bool, true, false, cond, ◌||◌, ◌==◌, List, [], ◌∷◌, ◌++◌, length, Some, None, Result, Ok, Err, nat_le, refl, sym, ap, ◌∙◌, arith, subst, append_assoc, length-append, codes}
use Rattle.std.specs.Fmt.{decimal}
use Rattle.std.specs.Cmp.Lexicographic.{same_text}
use Rattle.std.proofs.lemmas.Bool.Decides.{nat_tests}
use Rattle.krb_derive.proofs.Tags.{same_tag}
use Rattle.scram_mech.specs.declared.verifiers.Verifier.{Verifier}
use Rattle.scram_mech.specs.declared.refusal.Stuck.{Stuck}
use Rattle.scram_mech.specs.declared.refusal.VerifierRefusal.{VerifierRefusal}
use Rattle.scram_mech.specs.declared.refusal.VerifierRefusal.TheVariants.{Twice}
use Rattle.scram_mech.specs.declared.run.Class.TheVariants.{LineName}
use Rattle.scram_mech.specs.declared.digits.Digits.{Digits}
use Rattle.scram_mech.specs.declared.digits.Digits.TheVariants as digits
use Rattle.scram_mech.specs.declared.symbols.Spot.TheVariants as spots
use Rattle.scram_mech.specs.declared.symbols.Symbols.{Symbols}
use Rattle.scram_mech.specs.declared.run.Run.{Run}
use Rattle.scram_mech.specs.declared.state.State.{State}
use Rattle.scram_mech.specs.declared.state.State.TheVariants as states
use Rattle.scram_mech.specs.Signs.{sextet_of}
use Rattle.scram_mech.specs.State.{some, base64, rounds_number, step}
use Rattle.scram_mech.specs.Run.{IsLineName, run_step}
use Rattle.scram_mech.specs.Digits.{number_of}
use Rattle.scram_mech.specs.Symbols.{symbols_step}
use Rattle.scram_mech.specs.Reading.{◌>>=◌}
use Rattle.scram_mech.specs.Base64.{encoded}
use Rattle.scram_mech.specs.Formats.{piece, pieces}
use Rattle.scram_mech.specs.Judging.{same, are_rounds}
use Rattle.scram_mech.specs.Verifiers.{line_format, verifier_of, bad_line, line_from, line_at, lines_at, line_for, is_there, once, verifiers_of, line_text}
use Rattle.scram_mech.specs.Grammar.{AreOctets}
use Rattle.scram_mech.specs.VerifierFile.{IsLine, AreLines, NotNamed, NamedOnce, lines_text, SpellsFile}
use Rattle.scram_mech.proofs.Walks.{walk-map}
use Rattle.scram_mech.proofs.Sextets.{and_true}
use Rattle.scram_mech.proofs.RunWalks.{run_of}
use Rattle.scram_mech.proofs.SymbolSteps.{st}
use Rattle.scram_mech.proofs.ValueFacts.{symbols_walk, digits_walk}
use Rattle.scram_mech.proofs.KindWalks.{run-walks}
use Rattle.scram_mech.proofs.SignWalks.{number-decimal}
use Rattle.scram_mech.proofs.Pieces.{Spelled, Takes, bind_ok, read_as, pieces-found, pieces-only}
use Rattle.scram_mech.proofs.Written.{takes-base64, takes-rounds, decoded-encoded}
use Rattle.scram_mech.proofs.ValueGrammar.{rounds-found, octets-found, run-found}

-- ---- a line that is read

pub record LineFound (line : Verifier) (octets rest : List ℕ) : Type 0 where
  pub is : IsLine line
  pub same : octets ≡ line_text line ++ rest

line_parts : (line : Verifier) (rest : List ℕ) → line_text line ++ rest ≡ line.name ++ (codes ":" ++ (decimal line.rounds ++ (codes ":" ++ (encoded line.salt ++ (codes ":" ++ (encoded line.stored ++ (codes ":" ++ (encoded line.server ++ (codes "\n" ++ rest)))))))))
unfolding line_text
line_parts line rest = simp append_assoc

line_values : (values : List (List ℕ)) (octets rest : List ℕ) → are_rounds (number_of (piece values 1)) ≡ true → Spelled line_format values octets rest → LineFound (verifier_of values) octets rest
unfolding line_format
line_values [] octets rest ranged s = absurd s
line_values (a ∷ []) octets rest ranged s = absurd s.3.2
line_values (a ∷ b ∷ []) octets rest ranged s = absurd s.3.2.3.2
line_values (a ∷ b ∷ c ∷ []) octets rest ranged s = absurd s.3.2.3.2.3.2
line_values (a ∷ b ∷ c ∷ d ∷ []) octets rest ranged s = absurd s.3.2.3.2.3.2.3.2
line_values (a ∷ b ∷ c ∷ d ∷ e ∷ []) octets rest ranged s =
    let r = s.3.2 in
    let q = r.3.2 in
    let t = q.3.2 in
    let u = t.3.2 in
    let name = run-found LineName 255 a s.0 s.2 in
    let rounds = rounds-found b r.0 r.2 in
    let salt = octets-found 1 64 c q.0 q.2 in
    let stored = octets-found 20 20 d t.0 t.2 in
    let server = octets-found 20 20 e u.0 u.2 in
    let line = verifier_of (a ∷ b ∷ c ∷ d ∷ e ∷ []) in
    let end : u.0 ≡ codes "\n" ++ rest = u.3.1 ∙ ap (λ (os : List ℕ). codes "\n" ++ os) u.3.2 in
    let whole : octets ≡ a ++ (codes ":" ++ (b ++ (codes ":" ++ (c ++ (codes ":" ++ (d ++ (codes ":" ++ (e ++ (codes "\n" ++ rest))))))))) =
    s.1 ∙ ap (λ (os : List ℕ). a ++ os) (s.3.1 ∙ ap (λ (os : List ℕ). codes ":" ++ os) (r.1 ∙ ap (λ (os : List ℕ). b ++ os) (r.3.1 ∙ ap (λ (os : List ℕ). codes ":" ++ os) (q.1 ∙ ap (λ (os : List ℕ). c ++ os) (q.3.1 ∙ ap (λ (os : List ℕ). codes ":" ++ os) (t.1 ∙ ap (λ (os : List ℕ). d ++ os) (t.3.1 ∙ ap (λ (os : List ℕ). codes ":" ++ os) (u.1 ∙ ap (λ (os : List ℕ). e ++ os) end)))))))) in
    record {
      is = record {
        named = record { each = name.each; some = name.some; few = name.few };
        ranged = ranged;
        salted = salt.0;
        stored = stored.0;
        server = server.0;
      };
      same = sym (line_parts line rest ∙ rw (rounds.1, salt.1, stored.1, server.1) (sym whole));
    }
line_values (a ∷ b ∷ c ∷ d ∷ e ∷ f ∷ more) octets rest ranged s = absurd s.3.2.3.2.3.2.3.2.3.2

abbrev pub line_read : Verifier → List ℕ → Result (Verifier × List ℕ) VerifierRefusal
line_read line rest = Ok (line, rest)

whole_same : (p q : Verifier × List ℕ) → line_read p.0 p.1 ≡ line_read q.0 q.1 → p ≡ q
whole_same p q e = cc

line_same : (a b : Verifier) (x y : List ℕ) → line_read a x ≡ line_read b y → (a ≡ b) × (x ≡ y)
line_same a b x y e =
    let p : Verifier × List ℕ = (a, x) in
    let q : Verifier × List ℕ = (b, y) in
    let is : p ≡ q = whole_same p q e in
    (ap (λ (r : Verifier × List ℕ). r.0) is, ap (λ (r : Verifier × List ℕ). r.1) is)

line_by : (number : ℕ) (octets : List ℕ) (values : List (List ℕ)) (back : List ℕ) (line : Verifier) (rest : List ℕ) (b : Bool) → pieces line_format octets ≡ read_as values back → are_rounds (number_of (piece values 1)) ≡ b
    → cond b (line_read (verifier_of values) back) (bad_line number) ≡ line_read line rest → LineFound line octets rest
line_by number octets values back line rest true p ranged e =
    let f = line_values values octets back ranged (pieces-found line_format values octets back p) in
    let q = line_same (verifier_of values) line back rest e in
    subst (λ (l : Verifier). LineFound l octets rest) q.0 (subst (λ (os : List ℕ). LineFound (verifier_of values) octets os) q.1 f)
line_by number octets values back line rest false p ranged e = absurd cc

line_from_found : (number : ℕ) (octets : List ℕ) (r : Result (List (List ℕ) × List ℕ) Stuck) (line : Verifier) (rest : List ℕ) → pieces line_format octets ≡ r → line_from number r ≡ line_read line rest → LineFound line octets rest
line_from_found number octets (Err stuck) line rest p e = absurd cc
line_from_found number octets (Ok x) line rest p e = line_by number octets x.0 x.1 line rest (are_rounds (number_of (piece x.0 1))) p refl e

pub line-found : (number : ℕ) (octets : List ℕ) (line : Verifier) (rest : List ℕ) → line_at number octets ≡ line_read line rest → LineFound line octets rest
unfolding line_at
line-found number octets line rest e = line_from_found number octets (pieces line_format octets) line rest refl e

-- ---- a line that is spelled

or_true : (b : Bool) → (b || true) ≡ true
or_true true = refl
or_true false = refl

line_stops : (r : Run) → r.class ≡ LineName → run_step r 58 ≡ None
line_stops r kind = rw (kind, or_true (r.left == 0)) refl

run_stops : (r : Run) → run_step r 58 ≡ None → step (states.Run r) 58 ≡ None
run_stops r e = rw e refl

takes-line_name : (name rest : List ℕ) → IsLineName name → Takes (some LineName 255) name (58 ∷ rest)
takes-line_name name rest is =
    let w = run-walks LineName 1 255 name is.each is.few in
    let none : w.last.need ≡ 0 = omega (arith, w.need_left, is.some) in
    record {
      last = states.Run w.last;
      passed = walk-map states.Run run_step step (λ t x. refl) (run_of LineName 1 255) name ∙ rw w.passed refl;
      ended = rw none refl;
      stops = run_stops w.last (line_stops w.last w.kind);
    }

symbols_colon : (s : Symbols) → step (states.Symbols s) 58 ≡ None
unfolding symbols_step sextet_of
symbols_colon s = refl

symbols_feed : (s : Symbols) → step (states.Symbols s) 10 ≡ None
unfolding symbols_step sextet_of
symbols_feed s = refl

base64-before : (least most x : ℕ) (value rest : List ℕ) → ((s : Symbols) → step (states.Symbols s) x ≡ None) → Takes (base64 least most) value [] → Takes (base64 least most) value (x ∷ rest)
base64-before least most x value rest none t =
    let w = symbols_walk (st spots.First least most) value t.last t.passed in
    record { last = t.last; passed = t.passed; ended = t.ended; stops = subst (λ (s : State). step s x ≡ None) w.2 (none w.0) }

takes-octets : (least most x : ℕ) (octets rest : List ℕ) → ((s : Symbols) → step (states.Symbols s) x ≡ None) → AreOctets least most octets → Takes (base64 least most) (encoded octets) (x ∷ rest)
takes-octets least most x octets rest none are = base64-before least most x (encoded octets) rest none (takes-base64 least most octets [] are.each are.enough are.few tt)

digits_colon : (d : Digits) → step (states.Digits d) 58 ≡ None
digits_colon d = refl

low : (n : ℕ) → nat_le 4096 n ≡ true → 0 < n
low n e = grind (arith, nat_tests)

high : (n : ℕ) → nat_le n 200000 ≡ true → n < 10 ^ 10
high n e = grind (arith, nat_tests)

in_word : (n : ℕ) → nat_le n 200000 ≡ true → n < 2 ^ 64
in_word n e = grind (arith, nat_tests)

takes-rounds_colon : (n : ℕ) (rest : List ℕ) → are_rounds n ≡ true → Takes rounds_number (decimal n) (58 ∷ rest)
takes-rounds_colon n rest ranged =
    let r = and_true (nat_le 4096 n) (nat_le n 200000) ranged in
    let t = takes-rounds n (low n r.0) (high n r.1) in
    let w = digits_walk digits.First (decimal n) t.last t.passed in
    record { last = t.last; passed = t.passed; ended = t.ended; stops = subst (λ (s : State). step s 58 ≡ None) w.2 (digits_colon w.0) }

abbrev values_of_line : Verifier → List (List ℕ)
values_of_line line = line.name ∷ decimal line.rounds ∷ encoded line.salt ∷ encoded line.stored ∷ encoded line.server ∷ []

line_spelled : (line : Verifier) (rest : List ℕ) → IsLine line → Spelled line_format (values_of_line line) (line_text line ++ rest) rest
unfolding line_format
line_spelled line rest is =
    let e = codes "\n" ++ rest in
    let d = codes ":" ++ (encoded line.server ++ e) in
    let c = codes ":" ++ (encoded line.stored ++ d) in
    let b = codes ":" ++ (encoded line.salt ++ c) in
    let a = codes ":" ++ (decimal line.rounds ++ b) in (
      a,
      line_parts line rest,
      takes-line_name line.name (decimal line.rounds ++ b) is.named,
      (
        decimal line.rounds ++ b,
        refl,
        (
          b,
          refl,
          takes-rounds_colon line.rounds (encoded line.salt ++ c) is.ranged,
          (
            encoded line.salt ++ c,
            refl,
            (
              c,
              refl,
              takes-octets 1 64 58 line.salt (encoded line.stored ++ d) symbols_colon is.salted,
              (
                encoded line.stored ++ d,
                refl,
                (
                  d,
                  refl,
                  takes-octets 20 20 58 line.stored (encoded line.server ++ e) symbols_colon is.stored,
                  (
                    encoded line.server ++ e,
                    refl,
                    (
                      e,
                      refl,
                      takes-octets 20 20 10 line.server rest symbols_feed is.server,
                      (rest, refl, refl),
                    ),
                  ),
                ),
              ),
            ),
          ),
        ),
      ),
    )

line_back : (number : ℕ) (line : Verifier) (rest : List ℕ) → IsLine line → line_from number (read_as (values_of_line line) rest) ≡ line_read line rest
line_back number line rest is =
    let r = and_true (nat_le 4096 line.rounds) (nat_le line.rounds 200000) is.ranged in
    rw (number-decimal line.rounds (in_word line.rounds r.1), is.ranged, decoded-encoded line.salt is.salted.each, decoded-encoded line.stored is.stored.each, decoded-encoded line.server is.server.each) refl

pub line-only : (number : ℕ) (line : Verifier) (rest : List ℕ) → IsLine line → line_at number (line_text line ++ rest) ≡ line_read line rest
unfolding line_at
line-only number line rest is = rw (pieces-only line_format (values_of_line line) (line_text line ++ rest) rest (line_spelled line rest is)) (line_back number line rest is)

-- ---- all lines

pub some_text : (line : Verifier) → IsLine line → 1 ≤ length (line_text line)
unfolding line_text
some_text line is = let some : 1 ≤ length line.name = is.named.some in simp length-append (omega arith)

abbrev pub lines_read : List Verifier → Result (List Verifier) VerifierRefusal
lines_read lines = Ok lines

lines_same : (a b : List Verifier) → lines_read a ≡ lines_read b → a ≡ b
lines_same a b e = cc

abbrev pub Lined : List Verifier → List ℕ → Type 0
Lined lines octets = AreLines lines × (octets ≡ lines_text lines)

pub lines-found : (most number : ℕ) (octets : List ℕ) (lines : List Verifier) → length octets ≤ most → lines_at most number octets ≡ lines_read lines → Lined lines octets
unfolding lines_at
lines-found zero number [] lines few e = subst (λ (ls : List Verifier). Lined ls []) (lines_same [] lines e) (tt, refl)
lines-found zero number (o ∷ os) lines few e = absurd (omega arith)
lines-found (suc most) number [] lines few e = subst (λ (ls : List Verifier). Lined ls []) (lines_same [] lines e) (tt, refl)
lines-found (suc most) number (o ∷ os) lines few e =
    let a = bind_ok (line_at number (o ∷ os)) (λ x. lines_at most (number + 1) x.1 >>= (λ others. Ok (x.0 ∷ others))) lines e in
    let b = bind_ok (lines_at most (number + 1) a.0.1) (λ others. Ok (a.0.0 ∷ others)) lines a.2 in
    let f = line-found number (o ∷ os) a.0.0 a.0.1 a.1 in
    let less : length a.0.1 ≤ most = omega (arith, few, ap length f.same, length-append (line_text a.0.0) a.0.1, some_text a.0.0 f.is) in
    let r = lines-found most (number + 1) a.0.1 b.0 less b.1 in
    subst (λ (ls : List Verifier). Lined ls (o ∷ os)) (lines_same (a.0.0 ∷ b.0) lines b.2) ((f.is, r.0), f.same ∙ ap (λ (xs : List ℕ). line_text a.0.0 ++ xs) r.1)

lines_step : (most number : ℕ) (octets back : List ℕ) (line : Verifier) (others : List Verifier) → 1 ≤ length octets → line_at number octets ≡ line_read line back → lines_at most (number + 1) back ≡ lines_read others → lines_at (suc most) number octets ≡ lines_read (line ∷ others)
unfolding lines_at
lines_step most number [] back line others some a b = absurd (omega arith)
lines_step most number (o ∷ os) back line others some a b = rw (a, b) refl

lines-only : (most number : ℕ) (lines : List Verifier) → AreLines lines → length (lines_text lines) ≤ most → lines_at most number (lines_text lines) ≡ lines_read lines
unfolding lines_at
lines-only zero number [] are few = refl
lines-only (suc most) number [] are few = refl
lines-only zero number (line ∷ lines) are few = absurd (omega (arith, few, length-append (line_text line) (lines_text lines), some_text line are.0))
lines-only (suc most) number (line ∷ lines) are few =
    let long : length (line_text line ++ lines_text lines) ≡ length (line_text line) + length (lines_text lines) = length-append (line_text line) (lines_text lines) in
    let some : 1 ≤ length (line_text line) = some_text line are.0 in
    lines_step most number (line_text line ++ lines_text lines) (lines_text lines) line lines (omega (arith, long, some)) (line-only number line (lines_text lines) are.0) (lines-only most (number + 1) lines are.1 (omega (arith, few, long, some)))

-- ---- names

clash : (b : Bool) → b ≡ false → b ≡ true → ⊥
clash b e f = cc

pub same_is : (a b : List ℕ) → same a b ≡ true → a ≡ b
same_is a b e = same_text a b (sym e)

unnamed_by : (line : Verifier) (lines : List Verifier) (name : List ℕ) (b : Bool) → same line.name name ≡ b → is_there (cond b (Some line) (line_for lines name)) ≡ false
    → (is_there (line_for lines name) ≡ false → NotNamed name lines) → NotNamed name (line ∷ lines)
unnamed_by line lines name true e none others = absurd (clash true none refl)
unnamed_by line lines name false e none others = (λ (is : line.name ≡ name). clash (same line.name name) e (same_tag line.name name is), others none)

pub unnamed : (lines : List Verifier) (name : List ℕ) → is_there (line_for lines name) ≡ false → NotNamed name lines
unnamed [] name e = tt
unnamed (line ∷ lines) name e = unnamed_by line lines name (same line.name name) refl e (λ f. unnamed lines name f)

absent_by : (line : Verifier) (lines : List Verifier) (name : List ℕ) (b : Bool) → same line.name name ≡ b → NotNamed name (line ∷ lines) → is_there (line_for lines name) ≡ false → is_there (cond b (Some line) (line_for lines name)) ≡ false
absent_by line lines name true e none others = absurd (none.0 (same_is line.name name e))
absent_by line lines name false e none others = others

pub absent : (lines : List Verifier) (name : List ℕ) → NotNamed name lines → is_there (line_for lines name) ≡ false
absent [] name none = refl
absent (line ∷ lines) name none = absent_by line lines name (same line.name name) refl none (absent lines name none.1)

abbrev single_read : Unit {0} → Result (Unit {0}) VerifierRefusal
single_read u = Ok u

once_by : (before : List Verifier) (number : ℕ) (line : Verifier) (lines : List Verifier) (u : Unit {0}) (b : Bool) → is_there (line_for before line.name) ≡ b
    → cond b (Err (Twice number)) (once (before ++ line ∷ []) (number + 1) lines) ≡ single_read u
    → (once (before ++ line ∷ []) (number + 1) lines ≡ single_read u → NamedOnce (before ++ line ∷ []) lines) → NamedOnce before (line ∷ lines)
once_by before number line lines u true there e others = absurd cc
once_by before number line lines u false there e others = (unnamed before line.name there, others e)

once-found : (before : List Verifier) (number : ℕ) (lines : List Verifier) (u : Unit {0}) → once before number lines ≡ single_read u → NamedOnce before lines
unfolding once
once-found before number [] u e = tt
once-found before number (line ∷ lines) u e = once_by before number line lines u (is_there (line_for before line.name)) refl e (λ f. once-found (before ++ line ∷ []) (number + 1) lines u f)

once-only : (before : List Verifier) (number : ℕ) (lines : List Verifier) → NamedOnce before lines → once before number lines ≡ single_read tt
unfolding once
once-only before number [] s = refl
once-only before number (line ∷ lines) s = rw (absent before line.name s.0) (once-only (before ++ line ∷ []) (number + 1) lines s.1)

-- ---- the file

pub file-found : (octets : List ℕ) (lines : List Verifier) → verifiers_of octets ≡ lines_read lines → SpellsFile lines octets
unfolding verifiers_of
file-found octets lines e =
    let a = bind_ok (lines_at (length octets) 1 octets) (λ ls. once [] 1 ls >>= (λ single. Ok ls)) lines e in
    let b = bind_ok (once [] 1 a.0) (λ single. Ok a.0) lines a.2 in
    let is : a.0 ≡ lines = lines_same a.0 lines b.2 in
    let f = lines-found (length octets) 1 octets a.0 (omega arith) a.1 in
    let s : SpellsFile a.0 octets = record { each = f.0; single = once-found [] 1 a.0 b.0 b.1; same = f.1 } in
    subst (λ (ls : List Verifier). SpellsFile ls octets) is s

file_text : (lines : List Verifier) → AreLines lines → NamedOnce [] lines → verifiers_of (lines_text lines) ≡ lines_read lines
unfolding verifiers_of
file_text lines each single = rw (lines-only (length (lines_text lines)) 1 lines each (omega arith), once-only [] 1 lines single) refl

pub file-only : (octets : List ℕ) (lines : List Verifier) → SpellsFile lines octets → verifiers_of octets ≡ lines_read lines
file-only octets lines s = rw s.same (file_text lines s.each s.single)
