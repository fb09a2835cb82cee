-- Looking through the files of a shelf, one after the other.
use Rattle.std.proofs.Common.{◌≡◌, ℕ, ◌+◌, ◌<◌, ◌∙◌, List, ◌∷◌, length, drop, get_or, Bool, true, false, Some, cond, ap, sym, eqb}
use Rattle.std.proofs.lemmas.List.{at_drop_more}
use lib.Pointwise.{pointwise}
use Rattle.sec_base.specs.declared.shelf.NamedFile.{NamedFile}
use Rattle.sec_base.specs.Shelf.{content_of}

pub found : (files : List NamedFile) (name : List ℕ) (i : ℕ) (file : NamedFile) → i < length files → file ≡ get_or files i file → pointwise eqb file.name name ≡ true → content_of (drop i files) name ≡ Some file.content
found files name i file h e same =
    at_drop_more (λ (fs : List NamedFile). content_of fs name) files i file h ∙ ap (λ (f : NamedFile). content_of (f ∷ drop (i + 1) files) name) (sym e) ∙ ap (λ (b : Bool). cond b (Some file.content) (content_of (drop (i + 1) files) name)) same

pub passed : (files : List NamedFile) (name : List ℕ) (i : ℕ) (file : NamedFile) → i < length files → file ≡ get_or files i file → pointwise eqb file.name name ≡ false → content_of (drop i files) name ≡ content_of (drop (i + 1) files) name
passed files name i file h e other =
    at_drop_more (λ (fs : List NamedFile). content_of fs name) files i file h ∙ ap (λ (f : NamedFile). content_of (f ∷ drop (i + 1) files) name) (sym e) ∙ ap (λ (b : Bool). cond b (Some file.content) (content_of (drop (i + 1) files) name)) other
