-- Attributes that have a text have counts and lengths of their widths.
use Rattle.std.proofs.Common.{List, [], ◌∷◌, ◌++◌, arith}
use Rattle.std.specs.List.{AllByRecursion}
use Rattle.kilim_class_pool.specs.declared.entry.Entry.{Entry}
use Rattle.kilim_class_attributes.specs.parts.Laws.{PartsAreSpelled}
use Rattle.kilim_class_attributes.specs.declared.attribute.CodeInfo.{CodeInfo}
use Rattle.kilim_class_attributes.specs.declared.attribute.CodeInfo.TheVariants as code_info
use Rattle.kilim_class_attributes.specs.declared.attribute.Code.{Code}
use Rattle.kilim_class_attributes.specs.declared.attribute.Info.{Info}
use Rattle.kilim_class_attributes.specs.declared.attribute.Info.TheVariants as info
use Rattle.kilim_class_attributes.specs.Lists.{EachAfter}
use Rattle.kilim_class_attributes.specs.Codes.{CodeInfoIsSized, CodeAttributeIsSized, CodeIsSized, CodeInfoFits, CodeAttributeFits, CodeFits}
use Rattle.kilim_class_attributes.specs.Attributes.{InfoIsSized, AttributeIsSized, InfoFits, AttributeFits}
use Rattle.kilim_class_attributes.specs.Laws.{FitIsSized}

module _ {A : Type 0} {P : A → Type 0} where
  each_after_of : {Fits : List A → A → Type 0} → ((before : List A) (x : A) → Fits before x → P x) → (before xs : List A) → EachAfter Fits before xs → AllByRecursion P xs
  each_after_of there before [] fit = tt
  each_after_of there before (x ∷ xs) fit = (there before x fit.0, each_after_of there (before ++ x ∷ []) xs fit.1)

module _ (given : PartsAreSpelled) (pool : List Entry) where
  code_info_sized : (i : CodeInfo) → CodeInfoFits pool i → CodeInfoIsSized i
  code_info_sized (code_info.StackMapTable frames) fit = given.sized pool frames fit
  code_info_sized (code_info.Raw bytes) fit = tt

  code_sized : (code : Code) → CodeFits pool code → CodeIsSized code
  code_sized code fit = record {
    size = omega (arith, fit.few);
    handlers = fit.handlers;
    count = fit.count;
    each = each_after_of {P = CodeAttributeIsSized} {Fits = CodeAttributeFits pool} (λ before a f. record { size = f.size; info = code_info_sized a.info f.info }) [] code.attributes fit.each;
  }

  info_sized : (i : Info) → InfoFits pool i → InfoIsSized i
  info_sized (info.ConstantValue index) fit = tt
  info_sized (info.Code code) fit = code_sized code fit
  info_sized (info.StackMapTable frames) fit = given.sized pool frames fit
  info_sized (info.Exceptions classes) fit = fit.0
  info_sized (info.RuntimeVisibleAnnotations parts) fit = tt
  info_sized (info.RuntimeInvisibleAnnotations parts) fit = tt
  info_sized (info.RuntimeVisibleParameterAnnotations parts) fit = tt
  info_sized (info.RuntimeInvisibleParameterAnnotations parts) fit = tt
  info_sized (info.Raw bytes) fit = tt

pub fit_is_sized : PartsAreSpelled → FitIsSized
fit_is_sized given pool place attributes fit = record {
  count = fit.count;
  each = each_after_of {P = AttributeIsSized} {Fits = AttributeFits pool place} (λ before a f. record { size = f.size; info = info_sized given pool a.info f.info }) [] attributes fit.each;
}
