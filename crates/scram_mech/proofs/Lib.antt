pub mod Loops
pub mod Walks
pub mod Sextets
pub mod SymbolSteps
pub mod Signs64
pub mod RunWalks
pub mod ValueFacts
pub mod Lines
pub mod Masks
pub mod KindWalks
pub mod SignWalks
pub mod Pieces
pub mod ExchangeLaws
pub mod Written
pub mod Frames
pub mod Agreement
pub mod FurtherWalks
pub mod OneCut
pub mod Places
pub mod Completions
pub mod SoundTexts
pub mod PlaceLaws
pub mod ValueGrammar
pub mod FileLaws
pub mod Extras
pub mod NameShapes
pub mod FoundTexts
pub mod OnlyTexts
pub mod RefusedTexts
pub mod RefusedFiles
pub mod Lengths
pub mod Reasons
pub mod SteppedTexts
mod FoundPlaces
mod PutPlaces
mod LentLines
