-- What an opened book answered, and its log, are a run of the world.
use Rattle.std.proofs.Common.{◌≡◌, ◌∙◌, ℕ, refl, sym, subst, arith, List, []}
use Rattle.accept_book.specs.Booking.{BookOf}
use Rattle.accept_core.specs.Legal.{Legal}
use Rattle.accept_book.specs.RecordShown.{Asked}
use Rattle.accept_core.specs.declared.entry.Receipt.{Receipt}
use Rattle.gss_server.specs.Hearing.{serving}
use Rattle.accept_core.specs.declared.entry.Entry.{Entry}
use Rattle.gss_server.specs.Asking.{Asking, BookAnswers}
use Rattle.server_command.specs.Through.{IsOpened}
use Rattle.server_options.specs.declared.keys.Keys.{Keys}
use Rattle.server_options.specs.declared.options.Options.{Options}
use Rattle.world_laws.specs.Events.{IsBook}
use Rattle.world_laws.specs.State.{World}
use Rattle.server_laws.specs.Served.{AllAnswered, LegalAnswers}
use Rattle.server_laws.specs.ServerRun.{opened_book, OpenedLaw, BookRunLaw}
use Rattle.server_laws.proofs.Canon.{book_as, Agrees, is-book}
use Rattle.history_laws.proofs.Growth.{legal-asking}
use Rattle.server_laws.proofs.Chains.{BookLegal, legal-all, goes-asking, all-goes}
use Rattle.server_laws.proofs.Runs.{all-served}

-- ---- the opened book

pub opened : OpenedLaw
opened options keys start = record {
  legal = tt;
  slots = λ id. tt;
  live = refl;
  width = refl;
  past = omega arith;
  marks = record { kept = refl };
}

opened-agrees : (options : Options) (keys : Keys) (start : ℕ) (book : BookOf) → IsOpened options keys start book → Agrees book.core
opened-agrees options keys start book o = record {
  each = λ id. rw (o.history, o.empty) tt;
  lives = rw (o.history, o.empty) refl;
  past = rw o.history (omega arith);
}

opened-is : (options : Options) (keys : Keys) (start : ℕ) (book : BookOf) → IsOpened options keys start book → book_as book ≡ opened_book options keys start
opened-is options keys start book o = λ i.
    let empty : BookOf = record {
      setup = record { own = o.own i; keytab = o.keytab i; verifiers = o.verifiers i; bindings = o.bindings i; offer = o.offer i; bare = o.bare i };
      core = record {
        history = o.history i;
        limit = o.limit i;
        width = o.width i;
        keeping = o.keeping i;
        table = record { limit = o.contexts i; width = o.width i; slots = o.empty i; used = book.core.table.used };
        cache = record { capacity = o.marks i; greatest = o.greatest i; held = [] };
      };
    } in
    book_as empty

-- ---- its runs

-- what a history makes of a world of the opened book
pub record HistoryGoes (w : World) (asked : List (Asked Receipt)) (history : List Entry) : Type 0 where
  pub legal : IsBook w.book
  pub book : BookOf
  pub logged : book.core.history ≡ history
  pub answers : Asking BookLegal w.book asked book

pub history-goes : (options : Options) (keys : Keys) (start : ℕ) (first last : BookOf) (asked : List (Asked Receipt)) → IsOpened options keys start first → Asking BookAnswers first asked last
    → Legal last.core.width last.core.history → (w : World) → w.book ≡ opened_book options keys start → HistoryGoes w asked last.core.history
history-goes options keys start first last asked opens answers end w is =
    let same : w.book ≡ book_as first = is ∙ sym (opened-is options keys start first opens) in
    let agrees = opened-agrees options keys start first opens in
    let begin : IsBook (book_as first) = is-book first (legal-asking first last asked answers end) agrees in
    let g = goes-asking first last asked answers end agrees in
    record {
      legal = subst IsBook (sym same) begin;
      book = book_as last;
      logged = refl;
      answers = subst (λ (b : BookOf). Asking BookLegal b asked (book_as last)) (sym same) g.answers;
    }

pub book-run : BookRunLaw
book-run options keys start first last width hands opens w answered end lane meanwhile is free =
    let same : w.book ≡ book_as first = is ∙ sym (opened-is options keys start first opens) in
    let agrees = opened-agrees options keys start first opens in
    let served = serving w.serves.program width in
    let begin : IsBook (book_as first) = is-book first (legal-all served hands first last answered end) agrees in
    record {
      book = book_as last;
      logged = refl;
      runs = all-served w lane width meanwhile hands (book_as last) (subst IsBook (sym same) begin) free
          (subst (λ (b : BookOf). AllAnswered LegalAnswers served hands b (book_as last)) (sym same) (all-goes served hands first last answered end agrees));
    }
