-- Which names a shelf was asked for the keys.
use Rattle.std.proofs.Common.{◌≡◌, ℕ, zero, suc, Bool, IsTrue, List, [], ◌∷◌, ◌++◌, append_assoc, take, Result, Ok, Err, refl, ap, ◌∙◌}
use Rattle.sec_base.specs.declared.shelf.NamedFile.{NamedFile}
use Rattle.gss_base.specs.Name.{Name}
use Rattle.krb_files.specs.declared.keytab.Entry.{Entry}
use Rattle.cli_base.specs.Files.{AsksFile, FromShelf}
use Rattle.cli_base.specs.declared.files.FileStop.{FileStop}
use Rattle.cli_base.specs.declared.files.FileStop.TheVariants as stops
use Rattle.server_options.specs.Keys.{end_by, keytab_in, BehindKeytab, FromFiles}
use Rattle.server_options.specs.declared.ending.KeyFile.TheVariants.{Keytab}
use Rattle.server_options.specs.declared.ending.RunEnd.{RunEnd}
use Rattle.server_options.specs.declared.ending.RunEnd.TheVariants.{NoMemory}
use Rattle.server_options.specs.declared.keys.Keys.{Keys}
use Rattle.server_options.specs.declared.options.Files.{Files}

by-file : (before after : List (List ℕ)) (name : List ℕ) (answer : Result (List ℕ) FileStop) → AsksFile before after name answer → (count : ℕ) × (after ≡ before ++ take count (name ∷ []))
by-file before after name (Ok octets) h = (1, h)
by-file before after name (Err (stops.Bad at)) h = (1, h)
by-file before after name (Err stops.CannotLoad) h = (1, h)
by-file before after name (Err stops.NoMemory) h = h

take-none : {A : Type 0} (count : ℕ) → ◌≡◌ {A = List A} (take count []) []
take-none zero = refl
take-none (suc count) = refl

one-name : (first second : List ℕ) (count : ℕ) → (least : ℕ) × (take count (first ∷ []) ≡ take least (first ∷ second ∷ []))
one-name first second zero = (0, refl)
one-name first second (suc count) = (1, ap (λ (names : List (List ℕ)). first ∷ names) (take-none count))

-- a file that was read was asked for
read-asked : (before after : List (List ℕ)) (name : List ℕ) (answer : Result (List ℕ) FileStop) (entries : List Entry) → keytab_in answer ≡ Ok entries → AsksFile before after name answer → after ≡ before ++ name ∷ []
read-asked before after name (Ok octets) entries e h = h
read-asked before after name (Err stop) entries e h = absurd (let f : ◌≡◌ {A = Result (List Entry) RunEnd} (Err (end_by Keytab stop)) (Ok entries) = e in cc)

by-both : (tells : Bool) (files : List NamedFile) (before between after : List (List ℕ)) (faults counted faults' : ℕ) (named : Files) (name : Name) (keytab : Result (List Entry) RunEnd) (keys : Result Keys RunEnd) → FromShelf NoMemory tells files before between faults counted named.keytab keytab_in keytab
    → BehindKeytab tells files between after counted faults' named.verifiers name keytab keys → IsTrue tells → (count : ℕ) × (after ≡ before ++ take count (named.keytab ∷ named.verifiers ∷ []))
by-both tells files before between after faults counted faults' named name (Err end) keys first behind t =
    let f = by-file before between named.keytab first.answer (first.loaded.asked t) in
    let one = one-name named.keytab named.verifiers f.0 in (one.0, behind.1 ∙ (f.1 ∙ ap (λ (names : List (List ℕ)). before ++ names) one.1))
by-both tells files before between after faults counted faults' named name (Ok entries) keys first behind t =
    let f : between ≡ before ++ named.keytab ∷ [] = read-asked before between named.keytab first.answer entries first.given (first.loaded.asked t) in
    let s = by-file between after named.verifiers behind.read.answer (behind.read.loaded.asked t) in
    (suc s.0, s.1 ∙ (ap (λ (names : List (List ℕ)). names ++ take s.0 (named.verifiers ∷ [])) f ∙ append_assoc before (named.keytab ∷ []) (take s.0 (named.verifiers ∷ []))))

pub key-names : (tells : Bool) (files : List NamedFile) (before after : List (List ℕ)) (faults faults' : ℕ) (named : Files) (name : Name) (keys : Result Keys RunEnd) → FromFiles tells files before after faults faults' named name keys → IsTrue tells
    → (count : ℕ) × (after ≡ before ++ take count (named.keytab ∷ named.verifiers ∷ []))
key-names tells files before after faults faults' named name keys h t =
    by-both tells files before h.between after faults h.counted faults' named name h.keytab keys h.read h.behind t
