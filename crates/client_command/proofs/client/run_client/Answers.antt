use Rattle.std.proofs.Common.{◌≡◌, ◌⊎◌, ◌∙◌, inl, inr, [], Result, Ok, refl, sym, ap}
use Rattle.client_command.proofs.ByCredentials.{stops-always, begun-always}
use Rattle.client_command.proofs.Saying.{unprinted}
use Rattle.client_command.proofs.Unread.{same-line, usage-of, usage-always, wanting, never-begun, never-unloaded, unasked}
use Rattle.client_command.specs.Credentials.{creds_from}
use Rattle.client_options.specs.Endings.{is_begun}
use Rattle.client_command.specs.Runs.{names_of}
use Rattle.client_options.specs.Words.{words_of}
use Rattle.client_options.specs.declared.words.ClientWords.{ClientWords}
use Rattle.cli_base.specs.declared.given.WordsRefusal.{WordsRefusal}
use Rattle.client_command.proofs.client.run_client.Goals as goal

-- ---- words in the command

same-words : {read : Result ClientWords WordsRefusal} {one other : ClientWords} → read ≡ Ok one → read ≡ Ok other → one ≡ other
same-words here there = cc

or-else : {P Q R : Type 0} → P ⊎ Q → (Q → R) → P ⊎ R
or-else (inl p) f = inl p
or-else (inr q) f = inr (f q)

pub returns-in-Ok-clause-said : goal.returns-in-Ok-clause-said
returns-in-Ok-clause-said g c = λ t. rw c.in-Ok.ensures.value (c.run_with.ensures.said t)

pub returns-in-Ok-clause-printed : goal.returns-in-Ok-clause-printed
returns-in-Ok-clause-printed g c = λ t. rw c.in-Ok.ensures.value (c.run_with.ensures.printed t)

pub returns-in-Ok-clause-usage : goal.returns-in-Ok-clause-usage
returns-in-Ok-clause-usage g c = λ e. absurd (c.run_with.ensures.other e)

pub returns-in-Ok-clause-begins : goal.returns-in-Ok-clause-begins
returns-in-Ok-clause-begins g c = λ asked is other.
    let same : asked ≡ c.in-Ok.words = same-words is c.in-Ok.ensures.value in
    rw same c.run_with.ensures.begins

pub returns-in-Ok-clause-asked : goal.returns-in-Ok-clause-asked
returns-in-Ok-clause-asked g c = λ asked is t.
    let same : asked ≡ c.in-Ok.words = same-words is c.in-Ok.ensures.value in
    rw same (c.run_with.ensures.asked t)

pub returns-in-Ok-clause-stops : goal.returns-in-Ok-clause-stops
returns-in-Ok-clause-stops g c = λ asked is t.
    let same : asked ≡ c.in-Ok.words = same-words is c.in-Ok.ensures.value in
    rw same (c.run_with.ensures.stops t)

pub returns-in-Ok-clause-always_stops : goal.returns-in-Ok-clause-always_stops
returns-in-Ok-clause-always_stops g c = λ asked end is t due steady other.
    let same : asked ≡ c.in-Ok.words = same-words is c.in-Ok.ensures.value in
    stops-always (creds_from (g.F.Shelf.files c.args.shelf.now) c.in-Ok.words.sources) c.run_with.result.end end
    (c.run_with.ensures.found t) c.run_with.ensures.load_fault steady (c.run_with.ensures.stops t) (rw same at due) other

pub returns-in-Ok-clause-found : goal.returns-in-Ok-clause-found
returns-in-Ok-clause-found g c = λ asked is t.
    let same : asked ≡ c.in-Ok.words = same-words is c.in-Ok.ensures.value in
    rw same (c.run_with.ensures.found t)

pub returns-in-Ok-clause-spoke : goal.returns-in-Ok-clause-spoke
returns-in-Ok-clause-spoke g c = λ begun t. record {
  asked = c.in-Ok.words;
  read = c.in-Ok.ensures.value;
  held = c.run_with.ensures.spoke begun t;
}

pub returns-in-Ok-clause-wanting : goal.returns-in-Ok-clause-wanting
returns-in-Ok-clause-wanting g c = λ e t.
    or-else (c.run_with.ensures.wanting e t) (λ held. record { asked = c.in-Ok.words; read = c.in-Ok.ensures.value; held = held })

pub returns-in-Ok-clause-complete : goal.returns-in-Ok-clause-complete
returns-in-Ok-clause-complete g c = λ asked creds is t due steady calm other.
    let same : asked ≡ c.in-Ok.words = same-words is c.in-Ok.ensures.value in (
      begun-always (creds_from (g.F.Shelf.files c.args.shelf.now) c.in-Ok.words.sources) c.run_with.result.end creds
          c.run_with.ensures.load_fault steady (c.run_with.ensures.stops t) (rw same at due) other,
      λ e. calm (c.run_with.ensures.link_fault e),
    )

pub returns-in-Ok-clause-ends : goal.returns-in-Ok-clause-ends
returns-in-Ok-clause-ends g c = λ asked creds parting is told due t so steady calm other.
    let same : asked ≡ c.in-Ok.words = same-words is c.in-Ok.ensures.value in
    c.run_with.ensures.ends creds parting told (rw same at due) t (rw same at so) steady calm other

-- ---- words that were refused

pub returns-in-Err-clause-sink_fault : goal.returns-in-Err-clause-sink_fault
returns-in-Err-clause-sink_fault g c = λ e. inr (c.unspoken.ensures.sink_fault e)

pub returns-in-Err-clause-said : goal.returns-in-Err-clause-said
returns-in-Err-clause-said g c = λ t.
    rw (sym (same-line c.in-Err.refusal (record { ccache = []; password = []; server = [] }) (names_of (words_of c.args.words.now)) c.end_of_words.ensures c.unspoken.ensures.end)) (c.unspoken.ensures.said t)

pub returns-in-Err-clause-printed : goal.returns-in-Err-clause-printed
returns-in-Err-clause-printed g c = λ t. unprinted (g.O.Sink.written c.args.out.now) _ c.unspoken.ensures.outcome c.unspoken.ensures.results

pub returns-in-Err-clause-usage : goal.returns-in-Err-clause-usage
returns-in-Err-clause-usage g c = usage-of c.in-Err.refusal _ (c.unspoken.ensures.end ∙ c.end_of_words.ensures) c.in-Err.ensures.value

pub returns-in-Err-clause-always_usage : goal.returns-in-Err-clause-always_usage
returns-in-Err-clause-always_usage g c = λ is other. usage-always c.in-Err.refusal (c.unspoken.ensures.end ∙ c.end_of_words.ensures) other

pub returns-in-Err-clause-begins : goal.returns-in-Err-clause-begins
returns-in-Err-clause-begins g c = λ asked is other. absurd (other (wanting c.in-Err.refusal _ asked (c.unspoken.ensures.end ∙ c.end_of_words.ensures) c.in-Err.ensures.value is))

pub returns-in-Err-clause-asked : goal.returns-in-Err-clause-asked
returns-in-Err-clause-asked g c = λ asked is t.
    unasked (g.F.Shelf.asked c.args.shelf.now) asked.sources (wanting c.in-Err.refusal _ asked (c.unspoken.ensures.end ∙ c.end_of_words.ensures) c.in-Err.ensures.value is)

pub returns-in-Err-clause-load_fault : goal.returns-in-Err-clause-load_fault
returns-in-Err-clause-load_fault g c = never-unloaded c.in-Err.refusal (c.unspoken.ensures.end ∙ c.end_of_words.ensures)

pub returns-in-Err-clause-stops : goal.returns-in-Err-clause-stops
returns-in-Err-clause-stops g c = λ asked is t stopped here other.
    absurd (other (wanting c.in-Err.refusal _ asked (c.unspoken.ensures.end ∙ c.end_of_words.ensures) c.in-Err.ensures.value is))

pub returns-in-Err-clause-always_stops : goal.returns-in-Err-clause-always_stops
returns-in-Err-clause-always_stops g c = λ asked end is t due steady other.
    absurd (other (wanting c.in-Err.refusal _ asked (c.unspoken.ensures.end ∙ c.end_of_words.ensures) c.in-Err.ensures.value is))

pub returns-in-Err-clause-found : goal.returns-in-Err-clause-found
returns-in-Err-clause-found g c = λ asked is t. never-begun c.in-Err.refusal (c.unspoken.ensures.end ∙ c.end_of_words.ensures)

pub returns-in-Err-clause-silent : goal.returns-in-Err-clause-silent
returns-in-Err-clause-silent g c = λ stopped other. record { same = refl; none = c.unspoken.ensures.outcome; empty = c.unspoken.ensures.results }

pub returns-in-Err-clause-spoke : goal.returns-in-Err-clause-spoke
returns-in-Err-clause-spoke g c = never-begun c.in-Err.refusal (c.unspoken.ensures.end ∙ c.end_of_words.ensures)

pub returns-in-Err-clause-wanting : goal.returns-in-Err-clause-wanting
returns-in-Err-clause-wanting g c = λ e t. inl (record { same = refl; none = c.unspoken.ensures.outcome; empty = c.unspoken.ensures.results })

pub returns-in-Err-clause-link_fault : goal.returns-in-Err-clause-link_fault
returns-in-Err-clause-link_fault g c = λ e. never-begun c.in-Err.refusal (c.unspoken.ensures.end ∙ c.end_of_words.ensures) (ap is_begun e)

pub returns-in-Err-clause-complete : goal.returns-in-Err-clause-complete
returns-in-Err-clause-complete g c = λ asked creds is t due steady calm other.
    absurd (other (wanting c.in-Err.refusal _ asked (c.unspoken.ensures.end ∙ c.end_of_words.ensures) c.in-Err.ensures.value is))

pub returns-in-Err-clause-ends : goal.returns-in-Err-clause-ends
returns-in-Err-clause-ends g c = λ asked creds parting is told due t so steady calm other.
    absurd (other (wanting c.in-Err.refusal _ asked (c.unspoken.ensures.end ∙ c.end_of_words.ensures) c.in-Err.ensures.value is))
