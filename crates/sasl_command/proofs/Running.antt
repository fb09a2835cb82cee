-- Runs that ended before a word was spoken.
use Rattle.std.proofs.Common.{◌≡◌, ◌≢◌, inl, refl, ℕ, Bool, false, List, [], Option, None, Result, Ok, Err}
use Rattle.sec_base.specs.declared.shelf.Shelf as shelves
use Rattle.sec_base.specs.declared.sink.Sink as sinks
use Rattle.gss_base.specs.Name.{Name}
use Rattle.krb_files.specs.declared.keytab.Entry.{Entry}
use Rattle.mech_objects.specs.Meaning.{MechSays}
use Rattle.spnego_core.specs.declared.setup.AcceptSetup.{AcceptSetup}
use Rattle.cli_base.specs.declared.given.WordsRefusal.{WordsRefusal}
use Rattle.cli_base.specs.declared.given.WordsRefusal.TheVariants as words
use Rattle.sasl_layer.specs.declared.facts.LayerFacts.{LayerFacts}
use Rattle.sasl_layer.specs.declared.layer.Wish.{Wish}
use Rattle.sasl_gssapi.specs.declared.accept.SaslAccept.TheVariants.{Asked}
use Rattle.sasl_options.specs.Endings.{end_of_words}
use Rattle.sasl_options.specs.declared.ending.RunEnd.{RunEnd}
use Rattle.sasl_options.specs.declared.ending.RunEnd.TheVariants.{NoMemory}
use Rattle.sasl_options.specs.declared.words.Wished.{Wished}
use Rattle.sasl_options.specs.declared.words.Words.{Words}
use Rattle.sasl_options.specs.declared.words.Words.TheVariants.{Serve, Ask}
use Rattle.sasl_command.specs.Turns.{Seen}
use Rattle.sasl_command.specs.Serving.{limit, Serves, IsServed, IsBefore, IsWish, Served}
use Rattle.sasl_command.specs.Asking as asking
use Rattle.sasl_command.specs.Runs.{Nothing, Ran, SpokeBy}
use Rattle.sasl_command.specs.declared.asking.Asked.{Asked as Came}
use Rattle.sasl_command.specs.declared.serving.Stage.TheVariants.{Before}
use Rattle.sasl_command.proofs.Devices.{deals-none}
use Rattle.sasl_command.proofs.Turning.{spoken-at}
use Rattle.sasl_command.proofs.AskTurns.{spoke-at, spoke-as}

-- there was no memory for a setup
pub unserved : (keytab : List Entry) (name : Name) (wished : Wished) (wish : Wish) (a : Seen) → IsWish wish wished → Served keytab name wished a a None NoMemory
unserved keytab name wished wish a is =
    let setup : AcceptSetup = record { own = name; keytab = keytab; verifiers = []; bindings = None; offer = []; bare = false } in
    record {
      setup = setup;
      is_setup = record { keytab_is = refl; own_is = refl; unbound = refl };
      wish = wish;
      is_wish = is;
      spoke = record {
        stands = Before (Asked wish);
        spoken = spoken-at (Serves setup) limit IsServed IsBefore (Before (Asked wish)) NoMemory (record { rest = record { took = []; wrote = []; moments = []; octets = [] }; cause = refl; deals = deals-none a });
        facts_are = refl;
      };
    }

-- there was no memory for the objects
pub unasked : (objects : List MechSays) (wished : Wished) (sending : List ℕ) (wish : Wish) (a : Seen) (came : Came) → came ≡ record { end = NoMemory; facts = None; echo = None } → IsWish wish wished → SpokeBy objects wished sending a a came.facts came.echo came.end
unasked objects wished sending wish a came e is = record {
  wish = wish;
  is_wish = is;
  spoke = spoke-as wish sending (asking.Opens objects) came e (spoke-at wish sending (asking.Opens objects) NoMemory (record { rest = record { took = []; wrote = []; moments = []; octets = [] }; cause = refl; deals = deals-none a }));
}

nothing : {F O : Type 0} (f : F) (o : O) (a : Seen) (facts : Option LayerFacts) → facts ≡ None → Nothing f f o o a a facts
nothing f o a facts e = record { unasked = refl; unprinted = refl; silent = record { same = refl; none = e } }

ok-err : (w : Words) (r : WordsRefusal) → Ok w ≡ Err r → ⊥
ok-err w r e = absurd cc

err-err : (d : Result Words WordsRefusal) → d ≡ Err words.NoMemory → d ≡ Err words.Usage → ⊥
err-err d e f = absurd cc

-- words were refused, or there was no memory for them
pub unread-ran : {F O : Type 0} (shelf : shelves.Ghosts F) (sink : sinks.Ghosts O) (f : F) (o : O) (tells : Bool) (objects : List MechSays) (a : Seen) (status : ℕ) (facts : Option LayerFacts) (end : RunEnd) (refusal : WordsRefusal) (due : Result Words WordsRefusal)
    → (refusal ≢ words.NoMemory → due ≡ Err refusal) → end ≡ end_of_words refusal → facts ≡ None → Ran shelf sink f f o o tells objects a a status facts end due
unread-ran shelf sink f o tells objects a status facts end words.NoMemory (Ok (Serve w)) h e n = inl (e, nothing f o a facts n)
unread-ran shelf sink f o tells objects a status facts end words.NoMemory (Ok (Ask w)) h e n = inl (e, nothing f o a facts n)
unread-ran shelf sink f o tells objects a status facts end words.NoMemory (Err r) h e n = (λ ne. absurd (ne e), nothing f o a facts n)
unread-ran shelf sink f o tells objects a status facts end words.Usage (Ok (Serve w)) h e n = absurd (ok-err (Serve w) words.Usage (h (λ q. cc)))
unread-ran shelf sink f o tells objects a status facts end words.Usage (Ok (Ask w)) h e n = absurd (ok-err (Ask w) words.Usage (h (λ q. cc)))
unread-ran shelf sink f o tells objects a status facts end words.Usage (Err words.Usage) h e n = (λ ne. e, nothing f o a facts n)
unread-ran shelf sink f o tells objects a status facts end words.Usage (Err words.NoMemory) h e n = absurd (err-err (Err words.NoMemory) refl (h (λ q. cc)))
