-- A gate of a run, from its opening on.
use Rattle.std.proofs.Common.{◌≡◌, ℕ, suc, ◌*◌, List, [], ◌∷◌, ◌++◌, refl, ap, sym, ◌∙◌, subst, arith, flat_map, map, length, replicate, reverse}
use Rattle.std.proofs.lemmas.List.{length-replicate}
use Rattle.accept_book.specs.Booking.{BookOf}
use Rattle.accept_book.specs.RecordShown.{Asked, booked}
use Rattle.accept_book.specs.declared.book_answer.Admitted.{Admitted}
use Rattle.accept_core.specs.Entering.{gained}
use Rattle.accept_core.specs.declared.entry.Receipt.{Receipt}
use Rattle.accept_core.specs.Legal.{Legal}
use Rattle.accept_core.specs.Logs.{LogOf}
use Rattle.again_gate.specs.Again.{AgainOf}
use Rattle.again_gate.specs.Turns.{Turned, Turning}
use Rattle.again_laws.specs.Acting.{acting, xids, NoneAgain}
use Rattle.again_laws.specs.Below.{HasBelow}
use Rattle.again_laws.specs.Laws.{ActsOnce, GateAnswers}
use Rattle.again_laws.specs.Sole.{receipts_in}
use Rattle.again_laws.proofs.Viewed.{viewed, turns-viewed, asked-viewed}
use Rattle.again_laws.proofs.Books.{booked-all, same-receipts}
use Rattle.gss_server.specs.Asking.{Asking, BookAnswers}
use Rattle.gss_server.specs.Telling.{limits_of}
use Rattle.history_laws.specs.Receipts.{receipts_in as receipts_of_book}
use Rattle.history_laws.specs.Seen.{AllSeen, IsEmpty}
use Rattle.history_laws.proofs.Chain.{seen-law}
use Rattle.history_laws.proofs.InPlace.{in-place}
use Rattle.server_command.specs.Runs.{HasLimits}
use Rattle.server_command.specs.Through.{IsOpened}
use Rattle.server_options.specs.declared.keys.Keys.{Keys}
use Rattle.server_options.specs.declared.options.Options.{Options}
use Rattle.server_seating.specs.SideBySide.{IsUnder}
use Rattle.datagram_serving.specs.Serving.{Below, IsGate}

-- a gate below whose book answers as a book does
abbrev pub HasBook : {S V : Type 0} → Below S V → Type 0
HasBook {S} {V} below = (old : S) (one : Asked Admitted) (new : S) → below.gate.answers old one new → GateAnswers (below.book old) one (below.book new)

pub once-of : {S V : Type 0} (law : ActsOnce) (below : Below S V) (options : Options) (keys : Keys) (start most : ℕ) (gate : AgainOf S) (is : IsGate below options keys start most gate) → HasBook below → (turns : List Turned) (new : AgainOf S) → Turning below.gate.answers gate turns new → Legal (below.book new.gate).core.width (below.book new.gate).core.history
    → (id : ℕ) → NoneAgain (2 * options.window) [] (xids (acting id turns))
once-of {S} {V} law below options keys start most gate is has turns new turning legal id = law (2 * options.window) options.contexts most (below.book is.first) turns (viewed below.book new) (record {
  empty = record { history = is.opened.history; slots = is.opened.empty };
  places = omega (arith, is.opened.contexts);
  turned = subst (λ (g : AgainOf S). Turning GateAnswers (viewed below.book g) turns (viewed below.book new)) is.over (turns-viewed below.book below.gate.answers GateAnswers has turns gate new turning);
  legal = legal;
}) id

-- the gate's book is the opened one
pub opened-of : {S V : Type 0} (below : Below S V) (options : Options) (keys : Keys) (start most : ℕ) (gate : AgainOf S) → IsGate below options keys start most gate → IsOpened options keys start (below.book gate.gate)
opened-of {S} {V} below options keys start most gate is = subst (λ (g : AgainOf S). IsOpened options keys start (below.book g.gate)) (sym is.over) is.opened

-- its log is kept under the options' limits
pub limits-of : (options : Options) (keys : Keys) (start : ℕ) (book : BookOf) (log : LogOf) → IsOpened options keys start book → IsUnder (limits_of book.core) log → HasLimits options log
limits-of options keys start book log opened under = record {
  width = under.width ∙ opened.width;
  limit = under.limit ∙ opened.limit;
  contexts = under.contexts ∙ opened.contexts;
  marks = under.marks ∙ opened.marks;
  keeping = under.keeping ∙ opened.keeping;
}

-- the chain of the book below
chain-of : {S V : Type 0} (below : Below S V) → HasBook below → (gate new : AgainOf S) (asked : List (Asked Admitted)) (has : HasBelow below.gate.answers gate new asked) → Asking BookAnswers (below.book gate.gate) (map booked has.below) (below.book new.gate)
chain-of below book gate new asked has = booked-all (below.book gate.gate) (below.book new.gate) has.below (asked-viewed below.book below.gate.answers GateAnswers book has.below gate.gate new.gate has.chain)

all-receipts : (asked : List (Asked Admitted)) → flat_map receipts_in asked ≡ flat_map receipts_of_book (map booked asked)
all-receipts [] = refl
all-receipts (one ∷ more) = ap (λ (l : List Receipt). l ++ flat_map receipts_in more) (sym (same-receipts one)) ∙ ap (λ (l : List Receipt). receipts_of_book (booked one) ++ l) (all-receipts more)

-- the receipts are the log
pub in-order : {S V : Type 0} (below : Below S V) (options : Options) (keys : Keys) (start most : ℕ) (gate new : AgainOf S) (asked : List (Asked Admitted)) (log : LogOf) → IsGate below options keys start most gate → HasBook below → HasBelow below.gate.answers gate new asked → reverse log.entries ≡ (below.book new.gate).core.history
    → flat_map receipts_in asked ≡ gained 0 (reverse log.entries)
in-order below options keys start most gate new asked log is book has entries =
    let opened = opened-of below options keys start most gate is in
    has.receipts ∙ (all-receipts has.below ∙ (in-place (map booked has.below) (below.book gate.gate) (below.book new.gate) (chain-of below book gate new asked has) ∙ (λ i. gained (length (opened.history i)) (sym entries i))))

-- what the book answered is what the log before says
pub seen-of : {S V : Type 0} (below : Below S V) (options : Options) (keys : Keys) (start most : ℕ) (gate new : AgainOf S) (asked : List (Asked Admitted)) → IsGate below options keys start most gate → HasBook below → (has : HasBelow below.gate.answers gate new asked) → Legal (below.book new.gate).core.width (below.book new.gate).core.history
    → AllSeen (below.book gate.gate).setup (limits_of (below.book gate.gate).core) start (map booked has.below)
seen-of below options keys start most gate new asked is book has legal =
    let opened = opened-of below options keys start most gate is in
    let empty : IsEmpty (below.book gate.gate) = record { history = opened.history; slots = opened.empty } in
    subst (λ (n : ℕ). AllSeen (below.book gate.gate).setup (limits_of (below.book gate.gate).core) n (map booked has.below)) opened.greatest (seen-law (below.book gate.gate) (below.book new.gate) (map booked has.below) empty (chain-of below book gate new asked has) legal)

-- what a keeper counts is how many things it was given
pub one-each : {A : Type 0} (xs : List A) → length (flat_map (λ (_ : A). tt {0} ∷ []) xs) ≡ length xs
one-each [] = refl
one-each (x ∷ xs) = ap suc (one-each xs)

pub counted : {A : Type 0} (new old : ℕ) (xs : List A) → old ≡ 0 → replicate new (tt {0}) ≡ replicate old tt ++ flat_map (λ (_ : A). tt ∷ []) xs
    → new ≡ length xs
counted {A} new old xs none given = sym (length-replicate new (tt {0})) ∙ (ap length given ∙ (ap (λ (n : ℕ). length (replicate n (tt {0}) ++ flat_map (λ (_ : A). tt ∷ []) xs)) none ∙ one-each xs))
