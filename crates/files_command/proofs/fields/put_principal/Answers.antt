use Rattle.std.proofs.Common.{◌≡◌, true, arith, sym, ap, ◌∙◌}
use Rattle.std.specs.Str.{is_utf8}
use Rattle.std.proofs.lemmas.Result.{on_ok_weaker}
use Rattle.gss_base.specs.Name.{Name}
use Rattle.std.proofs.lemmas.Str.{is_utf8-from_IsUtf8}
use Rattle.krb_files.specs.Names.{are_texts}
use Rattle.files_command.proofs.ShortNames.{fits_name}
use Rattle.files_command.proofs.fields.put_principal.Goals as goal

pub put_counted-requires-clause-length : goal.put_counted-requires-clause-length
put_counted-requires-clause-length c =
    let fits = fits_name c.args.name.now.realm c.args.name.now.parts c.label-label.ensures.named in
    rw (c.as_bytes.ensures.value, c.realm-realm.ensures) (omega (arith, fits.realm_short))

pub put_parts-requires-clause-short : goal.put_parts-requires-clause-short
put_parts-requires-clause-short c =
    let fits = fits_name c.args.name.now.realm c.args.name.now.parts c.label-label.ensures.named in
    rw c.parts-parts.ensures fits.parts_short

pub returns-clause-texts : goal.returns-clause-texts
returns-clause-texts c =
    let name : Name = c.args.name.now in
    let realm : is_utf8 name.realm ≡ true = rw (← c.realm-realm.ensures) (is_utf8-from_IsUtf8 c.realm-realm.result.now c.realm-realm.utf8) in
    on_ok_weaker c.put_parts.result
    (λ texts. record { named = c.label-label.ensures.named; realm_text = realm; part_texts = ap are_texts (sym c.parts-parts.ensures) ∙ texts })
    c.put_parts.ensures.texts
