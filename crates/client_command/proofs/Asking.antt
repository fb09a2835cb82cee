-- Which files a run asked its shelf for.
use Rattle.std.proofs.Common.{◌≡◌, ◌≢◌, ℕ, zero, suc, ◌+◌, true, List, [], ◌∷◌, ◌++◌, append_assoc, length, take, arith, Option, None, Some, Result, Ok, Err, refl, sym, ap, ◌∙◌}
use Rattle.std.proofs.Math.Seq.{take-append-add}
use Rattle.std.proofs.lemmas.List.{take_all}
use Rattle.std.specs.Prelude.{IfErr}
use Rattle.cli_base.specs.declared.files.FileStop.{FileStop}
use Rattle.cli_base.specs.declared.files.FileStop.TheVariants as stops
use Rattle.client_command.specs.Credentials.{end_by, IsStopOf, file_named, files_named, asked_until, AskedOne, Asks, AsksFor}
use Rattle.client_options.specs.Endings.{is_begun}
use Rattle.client_options.specs.declared.ending.RunEnd.{RunEnd}
use Rattle.client_options.specs.declared.ending.RunEnd.TheVariants.{Usage, CannotLoad, Bad, NoCredential, NoMemory, LinkFault, PeerEnded, Refused, Negotiation, BadReply, Foreign, Spent, Finished}
use Rattle.client_options.specs.declared.ending.WordFile.TheVariants.{Ccache, Password}
use Rattle.client_options.specs.declared.words.Sources.{Sources}

-- ---- the cache can't be used

take-none : (count : ℕ) → ◌≡◌ {A = List (List ℕ)} (take count []) []
take-none zero = refl
take-none (suc count) = refl

front-of : (count : ℕ) (name : Option (List ℕ)) (more : List (List ℕ)) → (other : ℕ) × (take count (file_named name) ≡ take other (file_named name ++ more))
front-of count None more = (0, take-none count)
front-of zero (Some name) more = (0, refl)
front-of (suc count) (Some name) more = (1, ap (λ (xs : List (List ℕ)). name ∷ xs) (take-none count))

until-cache : (sources : Sources) (stop : FileStop) → end_by Ccache stop ≢ NoMemory → asked_until sources (end_by Ccache stop) ≡ file_named sources.ccache
until-cache sources stops.CannotLoad other = refl
until-cache sources (stops.Bad at) other = refl
until-cache sources stops.NoMemory other = absurd (other refl)

pub asked-cache : (old new : List (List ℕ)) (sources : Sources) (end : RunEnd) → IsStopOf Ccache end → AskedOne old new sources.ccache end → Asks old new sources end
asked-cache old new sources end stop one = record {
  front = let f = front-of one.front.0 sources.ccache (file_named sources.password) in (f.0, one.front.1 ∙ ap (λ (xs : List (List ℕ)). old ++ xs) f.1);
  whole = λ other. one.whole other ∙ ap (λ (xs : List (List ℕ)). old ++ xs) (sym (ap (asked_until sources) stop.1 ∙ until-cache sources stop.0 (λ e. other (stop.1 ∙ e))));
}

-- ---- the password's file can't be used

until-password : (sources : Sources) (stop : FileStop) → asked_until sources (end_by Password stop) ≡ files_named sources
until-password sources stops.CannotLoad = refl
until-password sources (stops.Bad at) = refl
until-password sources stops.NoMemory = refl

behind : (old mid new more : List (List ℕ)) (sources : Sources) → mid ≡ old ++ file_named sources.ccache → new ≡ mid ++ more → new ≡ old ++ (file_named sources.ccache ++ more)
behind old mid new more sources first second = second ∙ (ap (λ (xs : List (List ℕ)). xs ++ more) first ∙ append_assoc old (file_named sources.ccache) more)

pub asked-password : (old mid new : List (List ℕ)) (sources : Sources) (end : RunEnd) → mid ≡ old ++ file_named sources.ccache → IsStopOf Password end → AskedOne mid new sources.password end → Asks old new sources end
asked-password old mid new sources end first stop one = record {
  front = (
    length (file_named sources.ccache) + one.front.0,
    behind old mid new (take one.front.0 (file_named sources.password)) sources first one.front.1
        ∙ ap (λ (xs : List (List ℕ)). old ++ xs) (sym (take-append-add (file_named sources.ccache) (file_named sources.password) one.front.0)),
  );
  whole = λ other.
      behind old mid new (file_named sources.password) sources first (one.whole other)
      ∙ ap (λ (xs : List (List ℕ)). old ++ xs) (sym (ap (asked_until sources) stop.1 ∙ until-password sources stop.0));
}

-- ---- both were read

pub asked-both : {A : Type 0} (old mid new : List (List ℕ)) (sources : Sources) (result : Result A RunEnd) → mid ≡ old ++ file_named sources.ccache → new ≡ mid ++ file_named sources.password → IfErr result (λ end. end ≢ NoMemory → end ≡ NoCredential) → AsksFor old new sources result
asked-both old mid new sources (Ok value) first second stop = behind old mid new (file_named sources.password) sources first second
asked-both old mid new sources (Err end) first second stop = record {
  front = (
    length (files_named sources),
    behind old mid new (file_named sources.password) sources first second ∙ ap (λ (xs : List (List ℕ)). old ++ xs) (sym (take_all (length (files_named sources)) (files_named sources) (omega arith))),
  );
  whole = λ other.
      behind old mid new (file_named sources.password) sources first second ∙ ap (λ (xs : List (List ℕ)). old ++ xs) (sym (ap (asked_until sources) (stop other)));
}

until-begun : (sources : Sources) (end : RunEnd) → is_begun end ≡ true → asked_until sources end ≡ files_named sources
until-begun sources Usage e = refl
until-begun sources (CannotLoad Ccache) e = cc
until-begun sources (CannotLoad Password) e = refl
until-begun sources (Bad Ccache at) e = cc
until-begun sources (Bad Password at) e = refl
until-begun sources NoCredential e = refl
until-begun sources NoMemory e = refl
until-begun sources LinkFault e = refl
until-begun sources PeerEnded e = refl
until-begun sources (Refused denial) e = refl
until-begun sources (Negotiation refusal) e = refl
until-begun sources (BadReply why) e = refl
until-begun sources Foreign e = refl
until-begun sources Spent e = refl
until-begun sources Finished e = refl

pub asked-begun : (old new : List (List ℕ)) (sources : Sources) (end : RunEnd) → new ≡ old ++ files_named sources → (end ≢ NoMemory → is_begun end ≡ true) → Asks old new sources end
asked-begun old new sources end all begun = record {
  front = (
    length (files_named sources),
    all ∙ ap (λ (xs : List (List ℕ)). old ++ xs) (sym (take_all (length (files_named sources)) (files_named sources) (omega arith))),
  );
  whole = λ other. all ∙ ap (λ (xs : List (List ℕ)). old ++ xs) (sym (until-begun sources end (begun other)));
}
