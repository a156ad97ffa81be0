-- What a listing is: a line for each item.
use Rattle.std.specs.Prelude.{◌≡◌, ℕ, List, length, flat_map, Option, Result, Ok, Err}
use Rattle.std.specs.Io.KnownBytes.{Consumes, Appends, IsAtEnd}
use Rattle.vp_language.specs.declared.language.Language.{Language}
use Rattle.vp_engine.specs.declared.session.RunFault.{RunFault}
use Rattle.vp_engine.specs.declared.session.RunFault.TheVariants.{Print, Read, Write, TooManyTurns}
use Rattle.vp_engine.specs.Bytes.{IsPrefix}
use Rattle.vp_streams.specs.Count.{counted}
use Rattle.vp_engine.specs.Offsets.{placed_line}
use Rattle.vp_engine.specs.Paper.{Rules, paper}
use Rattle.vp_engine.specs.Session.{IsWhole, StopsAt}
use Rattle.vp_engine.specs.Setups.{line, rules_of}
use Rattle.vp_engine.specs.Setups.{Listing, ListingWithOffsets}

module _ {Item : Type 0} (rules : Rules Item) (line : Item → List ℕ) where
  -- the lines of the items of the bytes, one after the other
  abbrev pub lines : List ℕ → List ℕ
  lines bytes = flat_map line (rules.reading.items bytes)

  -- each item of r has its line in w, and there are `n` of them
  pub record IsListed (n : ℕ) (r w : List ℕ) (end : Type 0) : Type 0 where
    pub whole : IsWhole rules r w end
    pub lines_of : w ≡ lines r
    pub count : n ≡ counted (length (rules.reading.items r))

  abbrev pub IsListing : Result ℕ RunFault → List ℕ → List ℕ → Type 0 → Type 0
  IsListing (Ok n) r w end = IsListed n r w end
  IsListing (Err (Print f after)) r w end = StopsAt rules f after r w (Unit {0}) end
  IsListing (Err Read) r w end = Unit {0}
  IsListing (Err Write) r w end = Unit {0}
  IsListing (Err TooManyTurns) r w end = Unit {0}

  -- a call read and wrote some bytes, which begin their listing, and its answer is about all of them
  pub record ListsBy (before after held holds : Option (List ℕ)) (result : Result ℕ RunFault)
      : Type 0 where
    pub read : List ℕ
    pub accepted : List ℕ
    pub consumed : Consumes before after read
    pub appended : Appends held holds accepted
    pub front : IsPrefix accepted (paper rules read)
    pub answer : IsListing result read accepted (IsAtEnd after)

-- each item's line
abbrev pub Lists : Language → (before after held holds : Option (List ℕ)) → Result ℕ RunFault → Type 0
Lists language = ListsBy (rules_of (Listing language)) (line language)

-- each item's line behind its place
abbrev pub ListsWithOffsets
    : Language → (before after held holds : Option (List ℕ)) → Result ℕ RunFault → Type 0
ListsWithOffsets language = ListsBy (rules_of (ListingWithOffsets language)) (placed_line (line language))
