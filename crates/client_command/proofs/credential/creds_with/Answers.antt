use Rattle.std.proofs.Common.{◌∙◌, ◌+◌, ℕ, Ok, sym, ap, rules}
use Rattle.std.proofs.lemmas.List.{length_push}
use Rattle.gss_base.specs.declared.mech.KerberosName.TheVariants.{Standard}
use Rattle.gss_base.specs.declared.mech.MechName.TheVariants.{Kerberos}
use Rattle.client_command.proofs.Listing.{next-cred, all-creds}
use Rattle.client_command.specs.Credentials.{cred_for}
use Rattle.client_command.proofs.credential.creds_with.Goals as goal

pub loop-name-preserved : goal.loop-name-preserved
loop-name-preserved c = record {
  kept = next-cred (cred_for c.args.sources.now c.args.cache.now c.args.password.now) c.args.sources.now.mechs c.loop-name.name-index (Kerberos Standard) c.loop-name.list.items
      (rw c.as_slice-names.ensures at c.loop-name-test.true) (rw c.as_slice-names.ensures at c.in_ok-cred.ensures.value) c.push_reserved.ensures.items c.loop-name.invariant.kept;
  count = rw c.push_reserved.ensures.items (length_push c.loop-name.list.items _ ∙ ap (λ (n : ℕ). n + 1) c.loop-name.invariant.count);
  room = search rules;
}

pub returns-clause-value : goal.returns-clause-value
returns-clause-value c =
    all-creds (cred_for c.args.sources.now c.args.cache.now c.args.password.now) c.args.sources.now.mechs c.loop-name.name-index c.loop-name.list.items
    (rw c.as_slice-names.ensures at c.loop-name-test.false) c.loop-name.invariant.kept
    ∙ ap Ok (sym c.of.ensures)
