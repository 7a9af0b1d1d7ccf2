-- The plain types, as elements of slices, parameters and results: those of the language, and structs and enums that hold no reference.
--     num w        an unsigned integer of that width.        bool, unit
--     struct_of    a declared struct, from its generated `the_type` and its `TheLaws`: `struct_of T.the_type L.the_laws L.mir refl L.the_copy L.the_plain`.        enum_of      a declared enum, likewise
-- Assumes nothing.
use mathlib.Core.Path.{◌≡◌, refl, sym, subst}
use mathlib.Core.List.{[], ◌∷◌}
use mir.Syntax.{Ty, Width, ty_int, ty_bool, ty_unit}
use mir.Val.{vint, vbool, vunit}
use denote.Copied.{uint_Copied, bool_Copied, Nothing-Copied}
use denote.Plain.{UInt, uint_Tells, uint_Lawful, uint_Makes, uint_copy, uint_row_laws, Boolean, bool_Tells, bool_Lawful, bool_Makes, bool-copy, bool-row_laws, Nothing, Nothing-Tells, Nothing-Lawful, Nothing-Makes, Nothing-copy, unit-row_laws}
use base.Fml.{ftrue}
use denote.Exit.{yes, unchanged, Exit, Last, left}
use denote.RattleType.{RattleType}
use denote.Struct.Struct.{Plains, Struct-row_laws}
use denote.Struct.Declared as struct
use denote.Struct.Laws as struct_laws
use denote.Enum.Enum.{Plainss, Few, Enum-row_laws}
use denote.Enum.Declared as enum
use denote.Enum.Laws as enum_laws
use Rattle.walks.proofs.Holds.{Elem}

abbrev pub num : Width → Elem
num w = record {
  R = UInt w;
  τ = ty_int w;
  one = refl;
  val = vint w;
  tells = uint_Tells w;
  lawful = λ 𝓛. uint_Lawful 𝓛 w;
  still = λ x f. refl;
  copies = λ 𝓛. uint_copy 𝓛 w;
  copied = λ 𝓛. uint_Copied 𝓛 w;
  shr_laws = uint_row_laws w;
  made = λ 𝓛. uint_Makes 𝓛 w;
}

abbrev pub bool : Elem
bool = record {
  R = Boolean;
  τ = ty_bool;
  one = refl;
  val = vbool;
  tells = bool_Tells;
  lawful = λ 𝓛. bool_Lawful 𝓛;
  still = λ x f. refl;
  copies = λ 𝓛. bool-copy 𝓛;
  copied = λ 𝓛. bool_Copied 𝓛;
  shr_laws = bool-row_laws;
  made = λ 𝓛. bool_Makes 𝓛;
}

abbrev pub unit : Elem
unit = record {
  R = Nothing;
  τ = ty_unit;
  one = refl;
  val = λ x. vunit;
  tells = Nothing-Tells;
  lawful = λ 𝓛. Nothing-Lawful 𝓛;
  still = λ x f. refl;
  copies = λ 𝓛. Nothing-copy 𝓛;
  copied = λ 𝓛. Nothing-Copied 𝓛;
  shr_laws = unit-row_laws;
  made = λ 𝓛. Nothing-Makes 𝓛;
}

-- a type that is seen at exit as it was passed leaves nothing to say there
pub stays : (R : RattleType) → R.exit yes ≡ unchanged → (x : R.Denot) (f : Last (R.exit yes) x) → left (R.exit yes) x f ≡ ftrue
stays R e = subst (λ (E : Exit R.Denot). (x : R.Denot) (f : Last E x) → left E x f ≡ ftrue) (sym e) (λ x f. refl)

abbrev pub struct_of : (T : struct.Declared) (L : struct_laws.Laws T) (τ : Ty) → (struct.row T).mir ≡ τ ∷ [] → struct_laws.Copyables T.parts → Plains (struct.fields T) → Elem
struct_of T L τ one cs pl = record {
  R = struct.row T;
  τ = τ;
  one = one;
  val = struct_laws.val T L;
  tells = struct_laws.tells T L;
  lawful = λ 𝓛. struct_laws.lawful T L 𝓛;
  still = stays (struct.row T) (struct_laws.still T cs yes);
  copies = λ 𝓛. struct_laws.copy T cs 𝓛;
  copied = λ 𝓛. struct_laws.copied T cs 𝓛;
  shr_laws = λ d. Struct-row_laws (struct.shape T) (struct_laws.copy_row_laws T.parts cs) (T.to d);
  made = λ 𝓛. struct_laws.makes T pl 𝓛;
}

abbrev pub enum_of : (T : enum.Declared) (L : enum_laws.Laws T) (τ : Ty) → (enum.row T).mir ≡ τ ∷ [] → Few (enum.shape T) → enum_laws.Copyabless T.parts → Plainss (enum.variants T) → Elem
enum_of T L τ one few cs pl = record {
  R = enum.row T;
  τ = τ;
  one = one;
  val = enum_laws.val T L;
  tells = enum_laws.tells T L;
  lawful = λ 𝓛. enum_laws.lawful T L 𝓛 few;
  still = stays (enum.row T) (enum_laws.still T cs yes);
  copies = λ 𝓛. enum_laws.copy T cs 𝓛;
  copied = λ 𝓛. enum_laws.copied T cs 𝓛;
  shr_laws = λ d. Enum-row_laws (enum.shape T) (enum_laws.copy_row_lawss T.parts cs) (T.to d);
  made = λ 𝓛. enum_laws.makes T pl 𝓛;
}
