-- A call that is answered without a question, or by one.
use Rattle.std.proofs.Common.{◌≡◌, ℕ, Option, Some, Result, refl}
use Rattle.accept_core.specs.declared.answer.AdmitRefusal.{AdmitRefusal}
use Rattle.accept_book.specs.declared.book_answer.Admitted.{Admitted}
use Rattle.accept_core.specs.declared.entry.Receipt.{Receipt}
use Rattle.rpcsec_msgs.specs.Cred.{CredValue}
use Rattle.accept_book.specs.RecordShown.{Ruling, Shown}
use Rattle.accept_book.specs.RecordRule.{IsInContext, data_ruling, ask_end, destroy_ruling}
use Rattle.accept_book.specs.declared.book_answer.Lease.{Lease}
use Rattle.gss_server.specs.Answers.{IsSaid}
use Rattle.gss_server.specs.Ruled.{IsRuled, IsRuledInContext, IsScreened, unasked}
use Rattle.gss_server.specs.declared.asks.Asks.{Asks}
use Rattle.gss_server.specs.declared.gate.Gate.{Ghosts}
use Rattle.gss_server.specs.declared.saying.Said.{Said}
use Rattle.gss_server.proofs.Turning.{asked-none}

-- what is said to it is said by a ruling that asks nothing
pub unasked-ruled : {S : Type 0} (gate : Ghosts S) (least : ℕ) (state : S) (asks : Asks) (one : Said) (ruling : Ruling) → asks ≡ unasked
    → IsSaid one ruling → IsRuled gate least state state asks one ruling
unasked-ruled gate least state asks one ruling none said = record {
  says = said.says;
  fits = said.fits;
  exact = rw (said.unasked, none) refl;
  asked = rw said.unasked (asked-none gate.answers gate.tells gate.room gate.told least state);
  tells = refl;
  limits = refl;
}

-- so is one of a context's calls, by a ruling that asks nothing
pub unasked-in-context : {S : Type 0} (gate : Ghosts S) (state : S) (asks : Asks) (one : Said) (ruling : Ruling) → asks ≡ unasked
    → IsSaid one ruling → IsRuledInContext gate state state asks one ruling
unasked-in-context gate state asks one ruling none said = record {
  ruled = unasked-ruled gate 1 state asks one ruling none said;
  unlooked = rw none refl;
}

-- a data call whose verifier, program or version refuses it
pub screened-data : {S : Type 0} (gate : Ghosts S) (state : S) (asks : Asks) (one : Said) (s : Shown) (cred : CredValue) (lease : Lease) (admitted : Option (Result Admitted AdmitRefusal)) → asks ≡ unasked
    → IsScreened s cred lease (Some one) → IsRuledInContext gate state state asks one (data_ruling s cred lease admitted)
unfolding data_ruling
screened-data gate state asks one s cred lease admitted none said = unasked-in-context gate state asks one _ none (said _)

-- and a call that ends its context
pub screened-destroy : {S : Type 0} (gate : Ghosts S) (state : S) (asks : Asks) (one : Said) (s : Shown) (cred : CredValue) (lease : Lease) (ended : Option (Result Receipt AdmitRefusal)) → asks ≡ unasked
    → IsScreened s cred lease (Some one) → IsRuledInContext gate state state asks one (destroy_ruling s cred lease ended)
unfolding destroy_ruling
screened-destroy gate state asks one s cred lease ended none said = unasked-in-context gate state asks one _ none (said _)

-- a call that ends its context, whose end was asked for
pub asked-destroy : {S : Type 0} (gate : Ghosts S) (old new : S) (asks : Asks) (one : Said) (s : Shown) (cred : CredValue) (lease : Lease) (ended : Option (Result Receipt AdmitRefusal)) → IsInContext s lease
    → IsRuledInContext gate old new asks one (ask_end s cred lease ended) → IsRuledInContext gate old new asks one (destroy_ruling s cred lease ended)
unfolding destroy_ruling
asked-destroy gate old new asks one s cred lease ended right ruled = rw (right.verified, right.program, right.version) ruled
