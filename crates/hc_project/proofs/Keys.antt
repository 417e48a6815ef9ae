-- A level's reading depends on its own keys alone.
use Rattle.hc_project.specs.Laws.{DocumentsReadTheirKeys, GroupsReadTheirKeys, SlavesReadTheirKeys, AreasReadTheirKeys, PdosReadTheirKeys}

pub documents-keys : DocumentsReadTheirKeys
documents-keys a b slaves groups = cc

pub groups-keys : GroupsReadTheirKeys
groups-keys room index a b alias slaves = cc

pub slaves-keys : SlavesReadTheirKeys
slaves-keys most place index a b station areas = cc

pub areas-keys : AreasReadTheirKeys
areas-keys most place index a b sm dir phys task assigned offered = cc

pub pdos-keys : PdosReadTheirKeys
pdos-keys most place number a b index entries = cc
