-- Attributes, members and files over a pool that grows.
use Rattle.std.proofs.Common.{ℕ, List, [], refl}
use Rattle.std.specs.List.{AllByRecursion}
use Rattle.kilim_class_pool.specs.declared.entry.Entry.{Entry}
use Rattle.kilim_class_pool.specs.Entries.{is_class, is_utf8}
use Rattle.kilim_class_pool.specs.Spelling.{PoolFits}
use Rattle.kilim_class_attributes.specs.declared.parts.annotation.PartKind.TheVariants.{AnnotationList, ParameterCount}
use Rattle.kilim_class_attributes.specs.declared.parts.index.EntryKind.TheVariants.{CatchType, Class, Constant}
use Rattle.kilim_class_attributes.specs.parts.Indices.{IndexFits}
use Rattle.kilim_class_attributes.specs.declared.attribute.Attribute.{Attribute}
use Rattle.kilim_class_attributes.specs.declared.attribute.Code.{Code}
use Rattle.kilim_class_attributes.specs.declared.attribute.CodeAttribute.{CodeAttribute}
use Rattle.kilim_class_attributes.specs.declared.attribute.CodeInfo.{CodeInfo}
use Rattle.kilim_class_attributes.specs.declared.attribute.CodeInfo.TheVariants as part
use Rattle.kilim_class_attributes.specs.declared.attribute.ExceptionHandler.{ExceptionHandler}
use Rattle.kilim_class_attributes.specs.declared.attribute.Info.{Info}
use Rattle.kilim_class_attributes.specs.declared.attribute.Info.TheVariants as info
use Rattle.kilim_class_attributes.specs.declared.attribute.Place.{Place}
use Rattle.kilim_class_attributes.specs.declared.attribute.Place.TheVariants as place
use Rattle.kilim_class_attributes.specs.Attributes.{AttributeFits, AttributesFit, InfoFits, info_form}
use Rattle.kilim_class_attributes.specs.Codes.{CodeAttributeFits, CodeFits, CodeInfoFits, HandlerFits, code_info_form}
use Rattle.kilim_class_file.specs.declared.class_file.ClassFile.{ClassFile}
use Rattle.kilim_class_file.specs.declared.class_file.MemberInfo.{MemberInfo}
use Rattle.kilim_class_file.specs.Text.{ListFits, MemberFits, MethodFits, Names, PartsFit}
use Rattle.kilim_class_making.specs.pool_needs.growth.Growth.{Extends, FitsToo, file_over}
use Rattle.kilim_class_making.proofs.pool_needs.growth.Parts.{all_mapped, annotations_too, each_mapped, form_too, frames_too, index_too, passes_too}

module _ (old new : List Entry) (extends : Extends old new) where
  -- ---- code

  handler_too : (handler : ExceptionHandler) → HandlerFits old handler → HandlerFits new handler
  handler_too handler fits = record { start = fits.start; end = fits.end; place = fits.place; caught = index_too old new extends CatchType handler.catch_type fits.caught }

  code_info_too : (i : CodeInfo) → CodeInfoFits old i → CodeInfoFits new i
  code_info_too (part.StackMapTable frames) fits = frames_too old new extends frames fits
  code_info_too (part.Raw bytes) fits = fits

  code_attribute_too : (before : List CodeAttribute) (a : CodeAttribute) → CodeAttributeFits old before a → CodeAttributeFits new before a
  code_attribute_too before a fits = record {
    below = fits.below;
    form = form_too old new extends place.Code a.attribute_name_index (code_info_form a.info) fits.form;
    once = fits.once;
    size = fits.size;
    info = code_info_too a.info fits.info;
  }

  pub code_too : (code : Code) → CodeFits old code → CodeFits new code
  code_too code fits = record {
    max_stack = fits.max_stack;
    max_locals = fits.max_locals;
    some = fits.some;
    few = fits.few;
    bytes = fits.bytes;
    handlers = fits.handlers;
    each_handler = all_mapped (HandlerFits old) (HandlerFits new) handler_too code.exception_table fits.each_handler;
    count = fits.count;
    each = each_mapped (CodeAttributeFits old) (CodeAttributeFits new) code_attribute_too [] code.attributes fits.each;
  }

  -- ---- attributes

  classes_too : (classes : List ℕ) → AllByRecursion (IndexFits old Class) classes → AllByRecursion (IndexFits new Class) classes
  classes_too classes fits = all_mapped (IndexFits old Class) (IndexFits new Class) (index_too old new extends Class) classes fits

  info_too : (i : Info) → InfoFits old i → InfoFits new i
  info_too (info.ConstantValue index) fits = index_too old new extends Constant index fits
  info_too (info.Code code) fits = code_too code fits
  info_too (info.StackMapTable frames) fits = frames_too old new extends frames fits
  info_too (info.Exceptions classes) fits = (fits.0, classes_too classes fits.1)
  info_too (info.RuntimeVisibleAnnotations parts) fits = annotations_too old new extends AnnotationList parts fits
  info_too (info.RuntimeInvisibleAnnotations parts) fits = annotations_too old new extends AnnotationList parts fits
  info_too (info.RuntimeVisibleParameterAnnotations parts) fits = annotations_too old new extends ParameterCount parts fits
  info_too (info.RuntimeInvisibleParameterAnnotations parts) fits = annotations_too old new extends ParameterCount parts fits
  info_too (info.Raw bytes) fits = fits

  pub attribute_too : (at : Place) (before : List Attribute) (a : Attribute) → AttributeFits old at before a → AttributeFits new at before a
  attribute_too at before a fits = record {
    below = fits.below;
    form = form_too old new extends at a.attribute_name_index (info_form a.info) fits.form;
    once = fits.once;
    size = fits.size;
    info = info_too a.info fits.info;
  }

  pub attributes_too : (at : Place) (attributes : List Attribute) → AttributesFit old at attributes → AttributesFit new at attributes
  attributes_too at attributes fits = record { count = fits.count; each = each_mapped (AttributeFits old at) (AttributeFits new at) (attribute_too at) [] attributes fits.each }

  -- ---- members

  pub text_too : (index : ℕ) → Names is_utf8 old index → Names is_utf8 new index
  text_too index names = (names.0, passes_too is_utf8 refl old new extends index names.1)

  pub class_too : (index : ℕ) → Names is_class old index → Names is_class new index
  class_too index names = (names.0, passes_too is_class refl old new extends index names.1)

  member_too : (at : Place) (m : MemberInfo) → MemberFits old at m → MemberFits new at m
  member_too at m fits = record {
    flags = fits.flags;
    name = text_too m.name_index fits.name;
    descriptor = text_too m.descriptor_index fits.descriptor;
    attributes = attributes_too at m.attributes fits.attributes;
  }

  method_too : (m : MemberInfo) → MethodFits old m → MethodFits new m
  method_too m fits = record { member = member_too place.Method m fits.member; code = fits.code }

  pub interfaces_too : (indices : List ℕ) → ListFits (Names is_class old) indices → ListFits (Names is_class new) indices
  interfaces_too indices fits = (fits.0, all_mapped (Names is_class old) (Names is_class new) class_too indices fits.1)

  pub fields_too : (at : Place) (fields : List MemberInfo) → ListFits (MemberFits old at) fields → ListFits (MemberFits new at) fields
  fields_too at fields fits = (fits.0, all_mapped (MemberFits old at) (MemberFits new at) (member_too at) fields fits.1)

  pub methods_too : (methods : List MemberInfo) → ListFits (MethodFits old) methods → ListFits (MethodFits new) methods
  methods_too methods fits = (fits.0, all_mapped (MethodFits old) (MethodFits new) method_too methods fits.1)

  pub fits_too : FitsToo old new
  fits_too = record {
    indices = index_too old new extends;
    frames = frames_too old new extends;
    annotations = annotations_too old new extends;
    code = code_too;
    attributes = attributes_too;
    texts = text_too;
    classes = class_too;
    interfaces = interfaces_too;
    fields = fields_too;
    methods = methods_too;
  }

-- ---- whole files

pub file_too : (file : ClassFile) (pool : List Entry) → PartsFit file → Extends file.constant_pool pool → PoolFits pool → PartsFit (file_over pool file)
file_too file pool fits extends well =
    let old = file.constant_pool in
    record {
      minor = fits.minor;
      major = fits.major;
      pool = well;
      flags = fits.flags;
      this_class = class_too old pool extends file.this_class fits.this_class;
      super_class = class_too old pool extends file.super_class fits.super_class;
      interfaces = interfaces_too old pool extends file.interfaces fits.interfaces;
      fields = fields_too old pool extends place.Field file.fields fits.fields;
      methods = methods_too old pool extends file.methods fits.methods;
      attributes = attributes_too old pool extends place.Class file.attributes fits.attributes;
    }
