-- What the passes over two readers come to.
use Rattle.std.specs.Prelude.{◌≡◌, ℕ, ◌+◌, ◌*◌, ◌≤◌, ◌==◌, ◌||◌, ◌&&◌, ◌⊎◌, Bool, true, false, List, [], ◌++◌, length, take, ⊤, Option, None, Some, Result, Ok, Err, if◌then◌else◌}
use Rattle.std.specs.Io.KnownBytes.{Consumes, Appends, IsAtEnd}
use Rattle.vp_dots.specs.Headers.{header_of}
use Rattle.vp_dots.specs.Images.{Image, row_bytes, pbm}
use Rattle.vp_streams.specs.Count.{grown, one_more_if}
use Rattle.vp_join.specs.Strips.{IsJoined, IsOffence, without_padding}
use Rattle.vp_join.specs.Told.{told, whole, rows_told}
use Rattle.vp_join.specs.Standing.{Stands, HasRead}
use Rattle.vp_join.specs.declared.fault.Offence.{Offence}
use Rattle.vp_join.specs.declared.fault.Offence.TheVariants.{Header as HeaderOffence, Width as WidthOffence, TooTall as TooTallOffence, Short as ShortOffence}
use Rattle.vp_join.specs.declared.fault.JoinFault.{JoinFault}
use Rattle.vp_join.specs.declared.fault.JoinFault.TheVariants.{Header, Width, TooTall, Short, TooWide, Differ, Read, Write, TooManyTurns}
use Rattle.vp_join.specs.declared.passes.Measured.{Measured}
use Rattle.vp_join.specs.declared.reading.Reading.{Reading}
use Rattle.vp_join.specs.declared.reading.Size.{Size}

-- an offence of the first reader, as the answer
abbrev pub fault_of : Offence → JoinFault
fault_of HeaderOffence = Header
fault_of WidthOffence = Width
fault_of TooTallOffence = TooTall
fault_of ShortOffence = Short

-- some bytes more may follow: none at the end
abbrev pub MayFollow : Type 0 → List ℕ → Type 0
MayFollow end more = end → more ≡ []

-- the text is images of this width and of this height in all
pub record HasSize (text : List ℕ) (size : Size) : Type 0 where
  pub image : Image
  pub joined : IsJoined text image
  pub width_is : image.width ≡ size.width
  pub height_is : image.height ≡ size.height

-- the text tells one image of this width and of this height
pub record Tells (text : List ℕ) (size : Size) : Type 0 where
  pub rows : List ℕ
  pub whole_is : told text ≡ whole (record { width = size.width; height = size.height; rows = rows })

-- the offence of a text that begins with these bytes
abbrev pub IsFound : Offence → List ℕ → Type 0 → Type 0
IsFound offence bytes end =
    (more : List ℕ) → MayFollow end more → (told (bytes ++ more)).offence ≡ Some offence

-- the answer of the first pass: the size of all images, or the first offence
abbrev pub IsMeasure : Result Measured JoinFault → List ℕ → Type 0 → Type 0
IsMeasure (Ok measured) bytes end = Tells bytes measured.size × end
IsMeasure (Err Header) bytes end = IsFound HeaderOffence bytes end
IsMeasure (Err Width) bytes end = IsFound WidthOffence bytes end
IsMeasure (Err TooTall) bytes end = IsFound TooTallOffence bytes end
IsMeasure (Err Short) bytes end = IsFound ShortOffence bytes end
IsMeasure (Err TooWide) bytes end = ⊥
IsMeasure (Err Differ) bytes end = ⊥
IsMeasure (Err Read) bytes end = Unit {0}
IsMeasure (Err Write) bytes end = ⊥
IsMeasure (Err TooManyTurns) bytes end = Unit {0}

-- the first pass read bytes, and answers for them
pub record Measures (before after : Option (List ℕ)) (result : Result Measured JoinFault) : Type 0 where
  pub bytes : List ℕ
  pub consumed : Consumes before after bytes
  pub answer : IsMeasure result bytes (IsAtEnd after)

-- in the first pass a reader gave bytes, and the reading stands after them
pub record IsAfter (before after : Option (List ℕ)) (s : Reading) : Type 0 where
  pub bytes : List ℕ
  pub consumed : Consumes before after bytes
  pub stands : HasRead s bytes []

abbrev pub IsWritten : Result ⊤ JoinFault → List ℕ → Type 0
IsWritten (Ok done) rest = rest ≡ []
IsWritten (Err fault) rest = fault ≡ Write

-- a front of bytes was taken, and all of them unless a write failed
pub record Writes (Has : List ℕ → Type 0) (bytes : List ℕ) (result : Result ⊤ JoinFault) : Type 0 where
  pub taken : List ℕ
  pub rest : List ℕ
  pub split : taken ++ rest ≡ bytes
  pub has : Has taken
  pub answer : IsWritten result rest

-- whatever was taken up to one state, these bytes more were up to the other
abbrev pub Follows : {A : Type 0} → (A → List ℕ → A → Type 0) → A → List ℕ → A → Type 0
Follows has a bytes b = (start : _) (before : List ℕ) → has start before a → has start (before ++ bytes) b

-- the second pass's answer: all rows are written, or the reader doesn't tell images of this size, whatever
-- follows
abbrev pub IsCopy : Result ⊤ JoinFault → Size → List ℕ → List ℕ → Type 0 → Type 0
IsCopy (Ok done) size bytes rest end = Tells bytes size × (rest ≡ []) × end
IsCopy (Err Differ) size bytes rest end =
    (more : List ℕ) → MayFollow end more → Tells (bytes ++ more) size → ⊥
IsCopy (Err Read) size bytes rest end = Unit {0}
IsCopy (Err Write) size bytes rest end = Unit {0}
IsCopy (Err TooManyTurns) size bytes rest end = Unit {0}
IsCopy (Err fault) size bytes rest end = ⊥

-- the second pass read bytes, of which a front of the rows among them was taken, no more than the image has,
-- and answers for them
pub record Copies (before after : Option (List ℕ)) (Has : List ℕ → Type 0) (size : Size)
    (result : Result ⊤ JoinFault) : Type 0 where
  pub bytes : List ℕ
  pub taken : List ℕ
  pub rest : List ℕ
  pub consumed : Consumes before after bytes
  pub front : taken ++ rest ≡ without_padding size.width (rows_told bytes)
  pub fits : length taken ≤ size.height * row_bytes size.width
  pub has : Has taken
  pub answer : IsCopy result size bytes rest (IsAtEnd after)

-- in the second pass a reader gave bytes, the reading stands after them, and all rows among them were taken
pub record IsCopied (before after : Option (List ℕ)) (Has : List ℕ → Type 0) (size : Size) (s : Reading)
    (given : ℕ) : Type 0 where
  pub bytes : List ℕ
  pub rows : List ℕ
  pub consumed : Consumes before after bytes
  pub stands : Stands s bytes rows
  pub given_is : given ≡ length rows
  pub fits : given ≤ size.height * row_bytes size.width
  pub has : Has (without_padding size.width rows)

-- a count after n calls
abbrev pub after_calls : ℕ → ℕ → ℕ
after_calls count n = if n == 0 then count else grown count n

-- a reader was called so often, no more than the limit, and that often where this was too often
pub record HasCalled (limit before after : ℕ) (too_many : Type 0) : Type 0 where
  pub calls : ℕ
  pub within : calls ≤ limit
  pub counted : after ≡ after_calls before calls
  pub all : too_many → calls ≡ limit

abbrev pub is_read_fault : {A : Type 0} → Result A JoinFault → Bool
is_read_fault (Err Read) = true
is_read_fault _ = false

abbrev pub is_write_fault : {A : Type 0} → Result A JoinFault → Bool
is_write_fault (Err Write) = true
is_write_fault _ = false

-- behind b and r a reading took some bytes and gave the rows among them without padding, or what it took is
-- no front of images of this size
abbrev pub GivesRows : Option ℕ → Reading → Size → List ℕ → List ℕ → List ℕ → List ℕ → Type 0
GivesRows (Some m) s size b r bytes rows =
    (x : List ℕ) × Stands s (b ++ bytes) (r ++ x) × (length x ≡ m)
    × (without_padding size.width (r ++ x) ≡ without_padding size.width r ++ take m rows)
GivesRows None s size b r bytes rows =
    (x : List ℕ) × Stands s (b ++ bytes) (r ++ x) × ((more : List ℕ) → Tells ((b ++ bytes) ++ more) size → ⊥)

-- the header of the joined image; none where there is no image
abbrev pub head_of : Size → List ℕ
head_of size = if size.height == 0 then [] else header_of size.width size.height

-- the whole joined image is written, and is not too wide: both readers are at their ends, and tell images of
-- one width and of one height in all
pub record IsWhole (too_wide : ℕ → Bool) (height : ℕ) (size : Size) (second written : List ℕ)
    (end : Type 0) : Type 0 where
  pub height_is : height ≡ size.height
  pub image : Image
  pub joined : IsJoined second image
  pub width_is : image.width ≡ size.width
  pub narrow : too_wide image.width ≡ false
  pub image_height_is : image.height ≡ size.height
  pub written_is : written ≡ pbm image
  pub at_end : end

-- the first reader's first offence, with which nothing is written and the second reader is not read
pub record IsRefused (offence : Offence) (first second written : List ℕ) (end : Type 0) : Type 0 where
  pub offence_of : (more : List ℕ) → MayFollow end more → IsOffence (first ++ more) offence
  pub unread : second ≡ []
  pub unwritten : written ≡ []

-- the image is too wide, with which nothing is written and the second reader is not read
pub record IsTooWide (too_wide : ℕ → Bool) (size : Size) (second written : List ℕ) : Type 0 where
  pub wide : too_wide size.width ≡ true
  pub unread : second ≡ []
  pub unwritten : written ≡ []

-- the first reader gave the bytes `first`, the second `second`, and `written` was written
abbrev pub IsEnding : (ℕ → Bool) → Result ℕ JoinFault → Size → List ℕ → List ℕ → List ℕ → Type 0 → Type 0
    → Type 0
IsEnding too_wide (Ok height) size first second written first_end second_end =
    IsWhole too_wide height size second written second_end
IsEnding too_wide (Err Header) size first second written first_end second_end =
    IsRefused HeaderOffence first second written first_end
IsEnding too_wide (Err Width) size first second written first_end second_end =
    IsRefused WidthOffence first second written first_end
IsEnding too_wide (Err TooTall) size first second written first_end second_end =
    IsRefused TooTallOffence first second written first_end
IsEnding too_wide (Err Short) size first second written first_end second_end =
    IsRefused ShortOffence first second written first_end
IsEnding too_wide (Err TooWide) size first second written first_end second_end =
    IsTooWide too_wide size second written
IsEnding too_wide (Err Differ) size first second written first_end second_end =
    (more : List ℕ) → MayFollow second_end more → HasSize (second ++ more) size → ⊥
IsEnding too_wide (Err Read) size first second written first_end second_end = Unit {0}
IsEnding too_wide (Err Write) size first second written first_end second_end = Unit {0}
IsEnding too_wide (Err TooManyTurns) size first second written first_end second_end = Unit {0}

-- the answer is one of those that come once the first reader was read to its end
abbrev pub is_late : Result ℕ JoinFault → Bool
is_late (Ok height) = true
is_late (Err TooWide) = true
is_late (Err Differ) = true
is_late _ = false

-- the first reader was read to its end, and told images of this size
pub record IsMeasured (first : List ℕ) (size : Size) (end : Type 0) : Type 0 where
  pub size_is : HasSize first size
  pub at_end : end

-- two readers gave bytes, and a front of the header of the first one's images and the rows of the second
-- one's was taken, no more than the joined image has: nothing before the first reader was read to its end, and
-- nothing of an image that is too wide
pub record Joins (a c b d : Option (List ℕ)) (Has : List ℕ → Type 0) (too_wide : ℕ → Bool)
    (result : Result ℕ JoinFault) : Type 0 where
  pub size : Size
  pub first : List ℕ
  pub second : List ℕ
  pub written : List ℕ
  pub rest : List ℕ
  pub consumed_first : Consumes a c first
  pub consumed_second : Consumes b d second
  pub has : Has written
  pub front : written ++ rest ≡ head_of size ++ without_padding size.width (rows_told second)
  pub fits : length written ≤ length (head_of size) + size.height * row_bytes size.width
  pub measured : ((written ≡ []) × (is_late result ≡ false)) ⊎ IsMeasured first size (IsAtEnd c)
  pub narrow : ((second ≡ []) × (written ≡ [])) ⊎ (too_wide size.width ≡ false)
  pub ending : IsEnding too_wide result size first second written (IsAtEnd c) (IsAtEnd d)

-- where both readers tell this text: its joined image and its height, or its first offence and nothing
-- taken, or an image that is too wide and nothing taken
abbrev pub IsExactly : List ℕ → (List ℕ → Type 0) → (ℕ → Bool) → Result ℕ JoinFault → Type 0
IsExactly text Has too_wide (Ok height) =
    (image : Image) × IsJoined text image × (too_wide image.width ≡ false) × (height ≡ image.height) × Has (pbm image)
IsExactly text Has too_wide (Err Header) = IsOffence text HeaderOffence × Has []
IsExactly text Has too_wide (Err Width) = IsOffence text WidthOffence × Has []
IsExactly text Has too_wide (Err TooTall) = IsOffence text TooTallOffence × Has []
IsExactly text Has too_wide (Err Short) = IsOffence text ShortOffence × Has []
IsExactly text Has too_wide (Err TooWide) =
    (image : Image) × IsJoined text image × (too_wide image.width ≡ true) × Has []
IsExactly text Has too_wide (Err Differ) = ⊥
IsExactly text Has too_wide (Err Read) = Unit {0}
IsExactly text Has too_wide (Err Write) = Unit {0}
IsExactly text Has too_wide (Err TooManyTurns) = Unit {0}

-- no image is too wide for a PBM
abbrev pub never : ℕ → Bool
never width = false

-- the same of a writer that holds the joined image as it is
abbrev pub IsExact : List ℕ → Option (List ℕ) → Option (List ℕ) → Result ℕ JoinFault → Type 0
IsExact text held holds result = IsExactly text (λ bytes. Appends held holds bytes) never result

-- what ends a call early though both readers tell images
abbrev pub IsOfCalls : JoinFault → Type 0
IsOfCalls Read = Unit {0}
IsOfCalls Write = Unit {0}
IsOfCalls TooManyTurns = Unit {0}
IsOfCalls fault = ⊥

-- both readers together were called no more often than the limit, and that often where this was too often
pub record HaveCalled (limit a c b d : ℕ) (too_many : Type 0) : Type 0 where
  pub first : ℕ
  pub second : ℕ
  pub within : first + second ≤ limit
  pub first_counted : c ≡ after_calls a first
  pub second_counted : d ≡ after_calls b second
  pub all : too_many → first + second ≡ limit

-- a call of one of the readers failed where this is so, and else none
pub record HasFailed (a c b d : ℕ) (failed : Bool) : Type 0 where
  pub first : Bool
  pub second : Bool
  pub first_counted : c ≡ one_more_if first a
  pub second_counted : d ≡ one_more_if second b
  pub either : failed ≡ (first || second)
  pub one : (first && second) ≡ false
