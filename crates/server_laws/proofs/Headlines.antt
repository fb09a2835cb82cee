-- The headline of the log that a run of the server returns.
use Rattle.std.proofs.Common.{◌≡◌, ◌∙◌, ℕ, zero, suc, ◌<◌, Bool, true, false, refl, ap, sym, subst, arith, List, length, replicate, reverse, slice_get, Option, Some, None, Result, Ok, Err, if◌then◌else◌}
use Rattle.sec_base.specs.Answers.{Gives}
use Rattle.sec_base.specs.declared.shelf.NamedFile.{NamedFile}
use Rattle.sec_base.specs.declared.shelf.Shelf as shelves
use Rattle.sec_base.specs.declared.port.Port as ports
use Rattle.sec_base.specs.declared.link.Link as links
use Rattle.sec_base.specs.declared.clock.Clock as clocks
use Rattle.sec_base.specs.declared.draw.Draw as draws
use Rattle.gss_base.specs.Name.{Name}
use Rattle.krb_files.specs.declared.keytab.Entry.{Entry}
use Rattle.scram_mech.specs.Laws.{Laws}
use Rattle.scram_mech.specs.VerifierFile.{AreLines}
use Rattle.scram_mech.specs.Verifiers.{verifiers_of}
use Rattle.scram_mech.specs.declared.verifiers.Verifier.{Verifier}
use Rattle.scram_mech.specs.declared.refusal.VerifierRefusal.{VerifierRefusal}
use Rattle.spnego_core.specs.Ends.{PlainSetup}
use Rattle.accept_book.specs.Booking.{BookOf}
use Rattle.rpc_program.specs.Programs.{Serving}
use Rattle.rpc_program.specs.declared.program.Program as programs
use Rattle.rpc_program.specs.declared.program.Speller as spellers
use Rattle.gss_server.specs.Hearing.{serving}
use Rattle.cli_base.specs.declared.files.FileStop.{FileStop}
use Rattle.gss_server.specs.declared.answer.Kept.{Kept}
use Rattle.gss_server.specs.declared.connection.Served.{Served}
use Rattle.gss_server.specs.declared.keeper.Keeper as keepers
use Rattle.server_options.specs.Keys.{verifiers_by, verifiers_in, keys_with, BehindKeytab, KeysFrom}
use Rattle.server_options.specs.declared.ending.RunEnd.{RunEnd}
use Rattle.server_options.specs.declared.ending.RunEnd.TheVariants.{NoKey, NoMemory}
use Rattle.server_options.specs.declared.keys.Keys.{Keys}
use Rattle.server_options.specs.declared.options.Files.{Files}
use Rattle.krb_files.specs.Keytab.{is_served}
use Rattle.world_laws.specs.Events.{Begins}
use Rattle.world_laws.specs.Headline.{Headline, StandsOnce}
use Rattle.world_laws.specs.State.{InHand}
use Rattle.world_runs.proofs.Beginning.{begins}
use Rattle.server_laws.specs.Beside.{AreFree}
use Rattle.server_laws.specs.ServerHeadline.{world_of, ServerHeadline}
use Rattle.server_laws.specs.ServerRun.{opened_book}
use Rattle.server_laws.proofs.Desks.{server-run}
use Rattle.server_laws.proofs.Openings.{opened}

-- ---- each line of the verifiers that files gave is of its grammar

read-lines : Laws → (users : List Verifier) (octets : List ℕ) (read : Result (List Verifier) VerifierRefusal) → verifiers_of octets ≡ read → verifiers_by read ≡ Ok users → AreLines users
read-lines laws users octets (Err refusal) is e = grind (arith, e)
read-lines laws users octets (Ok lines) is e = subst AreLines (same lines users e) (laws.file_found octets lines is).each
  where
    same : (a b : List Verifier) → ◌≡◌ {A = Result (List Verifier) RunEnd} (Ok a) (Ok b) → a ≡ b
    same a b e = grind (arith, e)

answered-lines : Laws → (users : List Verifier) (answer : Result (List ℕ) FileStop) → verifiers_in answer ≡ Ok users → AreLines users
answered-lines laws users (Err stop) e = grind (arith, e)
answered-lines laws users (Ok octets) e = read-lines laws users octets (verifiers_of octets) refl e

chosen : (entries : List Entry) (users : List Verifier) (keys : Keys) (served : Bool) → Ok keys ≡ (if served then Ok (record { keytab = entries; verifiers = users }) else Err NoKey) → users ≡ keys.verifiers
chosen entries users keys true e = sym (ap (λ (k : Keys). k.verifiers) (same keys (record { keytab = entries; verifiers = users }) e))
  where
    same : (a b : Keys) → ◌≡◌ {A = Result Keys RunEnd} (Ok a) (Ok b) → a ≡ b
    same a b e = grind (arith, e)
chosen entries users keys false e = grind (arith, e)

users-lines : Laws → (name : Name) (entries : List Entry) (verifiers : Result (List Verifier) RunEnd) (answer : Result (List ℕ) FileStop) (keys : Keys)
    → Ok keys ≡ keys_with name entries verifiers → Gives NoMemory (λ (a : List Verifier). a) verifiers (verifiers_in answer) → AreLines keys.verifiers
users-lines laws name entries (Err end) answer keys e given = grind (arith, e)
users-lines laws name entries (Ok users) answer keys e given = subst AreLines (chosen entries users keys (is_served name entries) e) (answered-lines laws users answer given)

behind-lines : Laws → (tells : Bool) (files : List NamedFile) (before after : List (List ℕ)) (faults faults' : ℕ) (file : List ℕ) (name : Name) (keytab : Result (List Entry) RunEnd) (keys : Keys)
    → BehindKeytab tells files before after faults faults' file name keytab (Ok keys) → AreLines keys.verifiers
behind-lines laws tells files before after faults faults' file name (Err end) keys b = grind (arith, b.0)
behind-lines laws tells files before after faults faults' file name (Ok entries) keys b = users-lines laws name entries b.verifiers b.read.answer keys b.are b.read.given

keys-lines : Laws → {F : Type 0} (shelf : shelves.Ghosts F) (before after : F) (named : Files) (name : Name) (keys : Keys) → KeysFrom shelf before after named name (Ok keys) → AreLines keys.verifiers
keys-lines laws shelf before after named name keys from =
    behind-lines laws (shelf.tells before) (shelf.files before) from.between (shelf.asked after) from.counted (shelf.faults after) named.verifiers name from.keytab keys from.behind

-- ---- the world before the first event

free-in : (count lane : ℕ) → lane < count → ◌≡◌ {A = Option (Option InHand)} (slice_get {X = Option InHand} (replicate count None) lane) (Some None)
free-in zero lane below = grind (arith, below)
free-in (suc count) zero below = refl
free-in (suc count) (suc lane) below = free-in count lane (omega (arith, below))

free : (serves : Serving) (initiators : List PlainSetup) (book : BookOf) (desks : ℕ) → AreFree (world_of serves initiators book desks) (λ desk. desk) desks
free serves initiators book desks = record { apart = λ i j first next same. same; free = λ i below. free-in desks i below }

-- ---- the headline

pub server-headline : Laws → Headline → {F V P C D K M T W L Q R : Type 0} (shelf : shelves.Ghosts F) (served : programs.Ghosts V T) (spelling : spellers.Ghosts W T) (port : ports.Ghosts P L) (link : links.Ghosts L) (clock : clocks.Ghosts C) (draw : draws.Ghosts D)
    (keeper : keepers.Ghosts K Kept Q) (kept : keepers.Ghosts M (Served L) R) → ServerHeadline shelf served spelling port link clock draw keeper kept
server-headline laws headline shelf served spelling port link clock draw keeper kept program spells options keys start faults faults' before after olds old end news new log files one legal initiators meanwhile are =
    let serves : Serving = serving spelling.says options.window in
    let book = opened_book options keys start in
    let w = world_of serves initiators book (length olds) in
    let begin : Begins w = begins serves program initiators book (length olds) refl (opened options keys start) (keys-lines laws shelf before after options.files options.name keys files) are.lists are.setups in
    let is = server-run served spelling port link clock draw keeper kept spells options keys start faults faults' olds old end news new log one legal w (λ desk. desk) meanwhile refl refl (free serves initiators book (length olds)) in
    let logged : is.runs.next.book.core.history ≡ reverse log.entries = ap (λ (b : BookOf). b.core.history) is.runs.booked ∙ is.logged in record {
      begins = begin;
      is = is;
      says = λ marking unforged fresh. record {
        logged = logged;
        agreement = headline.agreement marking w is.runs.events is.runs.next is.runs.run begin unforged fresh;
        origin = headline.origin marking w is.runs.events is.runs.next is.runs.run begin unforged fresh;
      };
      once = subst StandsOnce logged (headline.once w is.runs.events is.runs.next is.runs.run begin);
    }
