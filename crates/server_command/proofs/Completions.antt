-- A run whose words and files are valid, and where no count rose, serves all connections.
use Rattle.std.proofs.Common.{arith, ◌≡◌, ◌≢◌, ◌⊎◌, inl, inr, ◌≤◌, ℕ, Bool, true, List, Result, Ok, Err, refl, sym, ◌∙◌, subst}
use Rattle.sec_base.specs.Answers.{Gives, Rose}
use Rattle.sec_base.specs.declared.shelf.NamedFile.{NamedFile}
use Rattle.gss_base.specs.Name.{Name}
use Rattle.krb_files.specs.Keytab.{is_served}
use Rattle.krb_files.specs.declared.keytab.Entry.{Entry}
use Rattle.scram_mech.specs.declared.verifiers.Verifier.{Verifier}
use Rattle.cli_base.specs.Files.{LoadsFile, FromShelf, file_in}
use Rattle.cli_base.specs.declared.files.FileStop.{FileStop}
use Rattle.cli_base.specs.declared.files.FileStop.TheVariants as stops
use Rattle.server_options.specs.Lines.{is_begun}
use Rattle.server_options.specs.Keys.{BehindKeytab, keytab_in, verifiers_in, keys_with}
use Rattle.server_command.specs.Runs.{EndsBy, Begins, AreValid}
use Rattle.server_options.specs.declared.ending.RunEnd.{RunEnd}
use Rattle.server_options.specs.declared.ending.RunEnd.TheVariants.{NoMemory, Served}
use Rattle.server_options.specs.declared.keys.Keys.{Keys}
use Rattle.server_options.specs.declared.options.Files.{Files}
use Rattle.server_options.specs.declared.options.Options.{Options}

ok-err : {A : Type 0} (value : A) (stop : RunEnd) → ◌≡◌ {A = Result A RunEnd} (Ok value) (Err stop) → ⊥
ok-err value stop e = cc

-- a file that is there and of its format is read, want of memory aside
reads-well : {A : Type 0} (read : Result A RunEnd) (due : A) (read_in : Result (List ℕ) FileStop → Result A RunEnd) (content answer : Result (List ℕ) FileStop) (octets : List ℕ) → content ≡ Ok octets → LoadsFile content answer → (answer ≡ Err stops.CannotLoad → ⊥)
    → read_in (Ok octets) ≡ Ok due → read_in (Err stops.NoMemory) ≡ Err NoMemory → Gives NoMemory (λ a. a) read (read_in answer) → ((stop : RunEnd) → read ≡ Err stop → stop ≢ NoMemory) → read ≡ Ok due
reads-well {A} (Ok r) due read_in content (Ok got) octets c loads fault good wanted given other =
    let same : got ≡ octets = cc in
    let is : read_in (Ok got) ≡ Ok due = subst (λ (o : List ℕ). read_in (Ok o) ≡ Ok due) (sym same) good in
    sym given ∙ is
reads-well {A} (Err stop) due read_in content (Ok got) octets c loads fault good wanted given other =
    let same : got ≡ octets = cc in
    let is : read_in (Ok got) ≡ Ok due = subst (λ (o : List ℕ). read_in (Ok o) ≡ Ok due) (sym same) good in
    absurd (ok-err due stop (sym is ∙ given (other stop refl)))
reads-well read due read_in content (Err stops.CannotLoad) octets c loads fault good wanted given other = absurd (fault refl)
reads-well read due read_in content (Err (stops.Bad at)) octets c loads fault good wanted given other = absurd (let f : ◌≡◌ {A = Result (List ℕ) FileStop} (Ok octets) (Err (stops.Bad at)) = sym c ∙ loads in cc)
reads-well {A} (Ok r) due read_in content (Err stops.NoMemory) octets c loads fault good wanted given other = absurd (ok-err r NoMemory (sym given ∙ wanted))
reads-well {A} (Err stop) due read_in content (Err stops.NoMemory) octets c loads fault good wanted given other =
    let both : ◌≡◌ {A = Result A RunEnd} (Err stop) (Err NoMemory) = sym (given (other stop refl)) ∙ wanted in
    let same : stop ≡ NoMemory = cc in
    absurd (other stop refl same)

rose-on : {a b c : ℕ} → Rose a b → b ≤ c → Rose a c
rose-on r le = λ small. let less = r (omega (arith, small, le)) in omega (arith, less, le)

pub rose-back : {a b c : ℕ} → a ≤ b → Rose b c → Rose a c
rose-back le r = λ small. let less = r small in omega (arith, less, le)

-- a run that ends by the stop of a read doesn't end so for want of memory
not-wanted : {A : Type 0} (stop end : RunEnd) → end ≡ stop → end ≢ NoMemory → (other : RunEnd) → ◌≡◌ {A = Result A RunEnd} (Err stop) (Err other) → other ≢ NoMemory
not-wanted stop end ends unwanted other e = λ wanted. unwanted (ends ∙ (let same : stop ≡ other = cc in same ∙ wanted))

none-stops : {A : Type 0} (value : A) (other : RunEnd) → ◌≡◌ {A = Result A RunEnd} (Ok value) (Err other) → other ≢ NoMemory
none-stops value other e = absurd (ok-err value other e)

ok-same : {A : Type 0} (x y : A) → ◌≡◌ {A = Result A RunEnd} (Ok x) (Ok y) → x ≡ y
ok-same x y e = cc

ends-by : (Stops : RunEnd → Type 0) (Opens : Type 0) (keys other : Result Keys RunEnd) (end : RunEnd) → keys ≡ other → EndsBy Stops Opens keys end → EndsBy Stops Opens other end
ends-by Stops Opens keys other end e h = subst (λ (k : Result Keys RunEnd). EndsBy Stops Opens k end) e h

-- a run with keys whose journal doesn't stop it is begun
begun-by : (Stops : RunEnd → Type 0) (Opens : Type 0) (end : RunEnd) → (Stops end → ⊥) → Stops end ⊎ (Opens × (end ≢ NoMemory → is_begun end ≡ true)) → end ≢ NoMemory → is_begun end ≡ true
begun-by Stops Opens end unstopped (inl stops) other = absurd (unstopped stops)
begun-by Stops Opens end unstopped (inr begun) other = begun.1 other

with-verifiers : (Stops : RunEnd → Type 0) (Opens : Type 0) (tells : Bool) (files : List NamedFile) (before after : List (List ℕ)) (faults faults' : ℕ) (named : Files) (name : Name) (entries : List Entry) (verifiers : Result (List Verifier) RunEnd) (keys : Result Keys RunEnd) (end : RunEnd) → (valid : AreValid tells files named name) → entries ≡ valid.entries
    → (Rose faults faults' → ⊥) → FromShelf NoMemory tells files before after faults faults' named.verifiers verifiers_in verifiers → keys ≡ keys_with name entries verifiers → EndsBy Stops Opens keys end → (Stops end → ⊥) → end ≢ NoMemory → is_begun end ≡ true
with-verifiers Stops Opens tells files before after faults faults' named name entries (Ok users) keys end valid same steady second are ends unstopped other =
    let served : is_served name entries ≡ true = rw same valid.served in
    let is : keys ≡ Ok (record { keytab = entries; verifiers = users }) = are ∙ rw served refl in
    begun-by Stops Opens end unstopped (ends-by Stops Opens keys (Ok (record { keytab = entries; verifiers = users })) end is ends) other
with-verifiers Stops Opens tells files before after faults faults' named name entries (Err stop) keys end valid same steady second are ends unstopped other =
    absurd (ok-err valid.users stop (sym (reads-well {A = List Verifier} (Err stop) valid.users verifiers_in (file_in files named.verifiers) second.answer valid.lines valid.text (second.loaded.content valid.told) (λ e. steady (second.loaded.fault e))
    (rw valid.known refl) refl second.given (not-wanted {A = List Verifier} stop end (ends-by Stops Opens keys (Err stop) end are ends) other))))

by-files : (Stops : RunEnd → Type 0) (Opens : Type 0) (tells : Bool) (files : List NamedFile) (before between after : List (List ℕ)) (faults counted faults' : ℕ) (named : Files) (name : Name) (keytab : Result (List Entry) RunEnd) (keys : Result Keys RunEnd) (end : RunEnd) → AreValid tells files named name → (Rose faults faults' → ⊥)
    → FromShelf NoMemory tells files before between faults counted named.keytab keytab_in keytab → BehindKeytab tells files between after counted faults' named.verifiers name keytab keys → counted ≤ faults' → EndsBy Stops Opens keys end → (Stops end → ⊥) → end ≢ NoMemory → is_begun end ≡ true
by-files Stops Opens tells files before between after faults counted faults' named name (Ok entries) keys end valid steady first behind le ends unstopped other =
    let same : entries ≡ valid.entries = ok-same entries valid.entries (reads-well {A = List Entry} (Ok entries) valid.entries keytab_in (file_in files named.keytab) first.answer valid.octets valid.content (first.loaded.content valid.told) (λ e. steady (rose-on (first.loaded.fault e) le))
    (rw valid.read refl) refl first.given (none-stops {A = List Entry} entries)) in
    with-verifiers Stops Opens tells files between after counted faults' named name entries behind.verifiers keys end valid same (λ r. steady (rose-back first.loaded.grows r)) behind.read behind.are ends unstopped other
by-files Stops Opens tells files before between after faults counted faults' named name (Err stop) keys end valid steady first behind le ends unstopped other =
    absurd (ok-err valid.entries stop (sym (reads-well {A = List Entry} (Err stop) valid.entries keytab_in (file_in files named.keytab) first.answer valid.octets valid.content (first.loaded.content valid.told) (λ e. steady (rose-on (first.loaded.fault e) le))
    (rw valid.read refl) refl first.given (not-wanted {A = List Entry} stop end (ends-by Stops Opens keys (Err stop) end behind.0 ends) other))))

-- a run that has its keys, in which no desk failed, serves all connections
pub completed : (Stops : RunEnd → Type 0) (Opens : Type 0) (tells : Bool) (files : List NamedFile) (before after : List (List ℕ)) (faults faults' : ℕ) (options : Options) (end : RunEnd) → Begins Stops Opens tells files before after faults faults' options end
    → AreValid tells files options.files options.name → (Rose faults faults' → ⊥) → (Stops end → ⊥) → (is_begun end ≡ true → end ≡ Served) → end ≢ NoMemory → end ≡ Served
completed Stops Opens tells files before after faults faults' options end begins valid steady unstopped served other =
    let given = begins.given in
    served (by-files Stops Opens tells files before given.between after faults given.counted faults' options.files options.name given.keytab begins.keys end valid steady given.read given.behind given.grows begins.ends unstopped other)
