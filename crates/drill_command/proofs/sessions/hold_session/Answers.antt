use Rattle.std.proofs.Common.{◌≡◌, ◌∙◌, ap, sym, subst, ℕ, Bool, List}
use Rattle.std.proofs.Math.Logic.{∥∥₁_elim, ∥∥₁_map}
use Rattle.std.proofs.Props.{props}
use Rattle.std.specs.List.{AllByRecursion}
use Rattle.gss_client.specs.Conferring.{calls_of}
use Rattle.posts_client.specs.Procedure.{query_of}
use Rattle.gss_client.specs.Start.{StartMeans}
use Rattle.gss_server.specs.Asking.{Asking}
use Rattle.gss_server.specs.declared.answer.Kept.{Kept}
use Rattle.pair_laws.specs.Answering.{AnswersBy}
use Rattle.pair_laws.specs.Posts.{posts_server}
use Rattle.accept_core.specs.declared.entry.Keeping.{Keeping}
use Rattle.drill_plan.specs.Limits.{book_limits}
use Rattle.drill_command.specs.Paired.{HasOctets}
use Rattle.drill_command.proofs.Limits.{looped}
use Rattle.drill_command.proofs.Linking.{linked-since, left-since}
use Rattle.drill_command.proofs.Rested.{at-moments, session-rests, talked-by}
use Rattle.drill_command.proofs.sessions.hold_session.Goals as goal

-- limits are the same by their parts
by-parts : (one other : List ℕ × Keeping) → one.0 ≡ other.0 → one.1.entries ≡ other.1.entries → one.1.digest ≡ other.1.digest → one ≡ other
by-parts one other numbers entries digest =
    ap (λ (ns : List ℕ). (ns, one.1)) numbers
    ∙ (ap (λ (kept : Bool). (other.0, record { entries = kept; digest = one.1.digest })) entries
    ∙ ap (λ (kept : Bool). (other.0, record { entries = other.1.entries; digest = kept })) digest)

pub returns-clause-limits : goal.returns-clause-limits
returns-clause-limits g c =
    let h = c.in_ok-held.held in
    let so = left-since 128 _ (λ gate. gate.inner.seat) (λ gate. gate.inner.program) (λ gate. gate.inner.speller) (λ old new one a. a) c.args.book h.book in
    by-parts (book_limits h.book.inner.seat) (book_limits c.args.book.inner.seat)
    (∥∥₁_elim c.in_ok-held.ensures.held (search props) (λ p. ap (λ (l : List ℕ × Keeping). l.0) (looped _ so _ _ _ _ _ p.looped.0 h.starved p.looped.1).limits))
    (∥∥₁_elim c.in_ok-held.ensures.held (search props) (λ p. ap (λ (l : List ℕ × Keeping). l.1.entries) (looped _ so _ _ _ _ _ p.looped.0 h.starved p.looped.1).limits))
    (∥∥₁_elim c.in_ok-held.ensures.held (search props) (λ p. ap (λ (l : List ℕ × Keeping). l.1.digest) (looped _ so _ _ _ _ _ p.looped.0 h.starved p.looped.1).limits))

pub returns-clause-counted : goal.returns-clause-counted
returns-clause-counted g c = λ e.
    let h = c.in_ok-held.held in
    let so = left-since 128 _ (λ gate. gate.inner.seat) (λ gate. gate.inner.program) (λ gate. gate.inner.speller) (λ old new one a. a) c.args.book h.book in
    ∥∥₁_elim c.in_ok-held.ensures.held (search props) (λ p. (looped _ so _ _ _ _ _ p.looped.0 h.starved p.looped.1).counted e)

pub returns-clause-moments : goal.returns-clause-moments
returns-clause-moments g c =
    let h = c.in_ok-held.held in
    ∥∥₁_elim c.in_ok-held.ensures.held (search props) (λ p. at-moments c.args.now h.kept.items p.looped.1.timed)

pub returns-clause-octets : goal.returns-clause-octets
returns-clause-octets g c = subst (λ (ks : List Kept). AllByRecursion HasOctets ks) c.as_slice.ensures.value c.tell_kept.ensures

pub returns-clause-fed : goal.returns-clause-fed
returns-clause-fed g c = λ own same fed counted.
    let h = c.in_ok-held.held in
    ∥∥₁_map (c.in_ok-held.ensures.plain own same) (λ p. talked-by _ (λ asked. Asking (AnswersBy (posts_server 128)) c.args.book.inner.seat asked h.book.inner.seat) (λ asked s. (linked-since 128 _ (λ gate. gate.inner.seat) (λ gate. gate.inner.program) (λ gate. gate.inner.speller) (λ old new one a. a) c.args.book h.book asked s).by counted)
    (posts_server 128).serving c.args.now c.args.client.value c.args.server.value own (calls_of query_of c.args.calls.now) h.kept.items h.starved h.session.outcome h.session.results.items h.session.ended fed p)

pub returns-clause-rests : goal.returns-clause-rests
returns-clause-rests g c = λ own same fed client tokens kind count fits counted.
    let h = c.in_ok-held.held in
    let first : own.first ≡ 1 = sym (ap (λ (s : StartMeans). s.first) same) ∙ c.requires.first in
    ∥∥₁_map (c.in_ok-held.ensures.plain own same) (λ p. session-rests _ c.args.book.inner.seat h.book.inner.seat c.args.now own (calls_of query_of c.args.calls.now) h.kept.items h.starved h.session tokens count kind c.args.client.value c.args.server.value (λ asked s. (linked-since 128 _ (λ gate. gate.inner.seat) (λ gate. gate.inner.program) (λ gate. gate.inner.speller) (λ old new one a. a) c.args.book h.book asked s).by counted) first c.prove_created.ensures c.tell_link.ensures
    (subst (λ (ks : List Kept). AllByRecursion HasOctets ks) c.as_slice.ensures.value c.tell_kept.ensures) c.in_ok-held.ensures.fault fed client fits p)
